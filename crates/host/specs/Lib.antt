pub mod Hosts
pub mod Meanings
pub mod Texts

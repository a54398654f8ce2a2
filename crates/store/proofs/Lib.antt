pub mod Lists
pub mod Packings

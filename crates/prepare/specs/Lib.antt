pub mod Faults
pub mod Freely
pub mod Preparing

mod Heads
mod Heights
pub mod Laws
mod Lengths
pub mod Scanning

mod Reading
mod Writing
mod Splits
pub mod Laws

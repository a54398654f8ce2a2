pub mod Laws
pub mod Parts
pub mod Refusals
pub mod SetOuts
pub mod SmallTable

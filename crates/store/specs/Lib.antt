pub mod Cells
pub mod Laws
pub mod Meanings
pub mod Packing
pub mod Refusals

pub mod Laws
pub mod Stacks
pub mod Transfer

pub mod Filling
pub mod Listing
pub mod Promising
pub mod Undergoing

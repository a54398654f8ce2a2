pub mod Stacking
pub mod Fitting
pub mod Checking
pub mod Laws

mod Fitting
pub mod Reading
pub mod Rooms

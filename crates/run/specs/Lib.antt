pub mod Answers
pub mod Calls
pub mod Faults
pub mod Promise
pub mod Undergone

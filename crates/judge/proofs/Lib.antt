pub mod Inside
pub mod Laws
pub mod Admission
pub mod Handing
pub mod Meeting
mod Verifying
mod Readying
pub mod Following
pub mod Entering
mod Calling

pub mod Decoding
pub mod Endings
pub mod Frames
pub mod Leaves
pub mod Machine
pub mod Runs
pub mod States
pub mod Steps

mod Dividing
pub mod Patterns
pub mod Proper
mod Ranges
mod Steps
mod Truncating

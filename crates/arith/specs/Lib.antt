pub mod Answers
pub mod Quotients
pub mod Integers
pub mod Reals
pub mod Relations
pub mod Operations

pub mod Kinds
pub mod Payloads
pub mod Shapes
pub mod Stops
pub mod Tables

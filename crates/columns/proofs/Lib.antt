mod Scanning
mod ValueScanning
mod Laying
mod Filling
pub mod Causes
pub mod Values
mod ValueCauses
mod ValueLaying

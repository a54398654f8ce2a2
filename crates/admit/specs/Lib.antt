pub mod Admissions
pub mod Laws
pub mod Local
pub mod Heights

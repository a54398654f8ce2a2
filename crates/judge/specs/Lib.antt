pub mod Flaws
pub mod Flow
pub mod Judgement
pub mod Laws
pub mod Admission
pub mod AdmissionLaws
pub mod Handing
pub mod Verifying

mod Lookups
pub mod Decided
pub mod EffectLaws
pub mod LookupLaws
pub mod OperandLaws
pub mod ProcedureLaws
pub mod SameLetters

pub mod Parts
pub mod LooseIndexes
pub mod GivenTerms
pub mod TypedTerms
pub mod OverSignature
pub mod Premises

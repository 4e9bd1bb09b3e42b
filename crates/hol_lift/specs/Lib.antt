pub mod Refutations
pub mod inner

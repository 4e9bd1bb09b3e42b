-- What serves proofs alone.
pub mod Lent

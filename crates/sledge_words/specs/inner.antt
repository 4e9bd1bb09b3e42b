-- What serves proofs alone.
pub mod Split

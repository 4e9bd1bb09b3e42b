-- What serves proofs alone.
pub mod Tables
pub mod Scopes
pub mod Parts
pub mod Leaves

-- What serves proofs alone.
pub mod Matching
pub mod Refuting
pub mod Parts
pub mod Opening
pub mod LiftedOver
pub mod Lifted
pub mod Plain
pub mod Identities

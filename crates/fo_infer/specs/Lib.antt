pub mod Paths
pub mod Inferences
pub mod Lines
pub mod Subsumption
pub mod OneList
pub mod inner

pub mod Paths
pub mod Contractions
pub mod inner

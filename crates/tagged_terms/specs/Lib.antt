pub mod Readings
pub mod Terms
pub mod Clauses
pub mod Instances
pub mod Fits
pub mod Laws

pub mod Fitting
pub mod Limits
pub mod Given
pub mod Refutation
pub mod inner

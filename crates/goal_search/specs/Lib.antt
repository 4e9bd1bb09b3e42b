pub mod Fitting
pub mod Inputs
pub mod Encoded
pub mod Found

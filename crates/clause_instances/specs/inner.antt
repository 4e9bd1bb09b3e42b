pub mod Passes
pub mod Variables

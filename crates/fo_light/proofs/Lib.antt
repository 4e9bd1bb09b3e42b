pub mod Instances
pub mod Growing
pub mod Lighter

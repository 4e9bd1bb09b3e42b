pub mod Landing
pub mod Steps
pub mod Failures
pub mod Named

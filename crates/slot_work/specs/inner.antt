pub mod Finding
pub mod Lookups
pub mod Tasks
pub mod Outcomes

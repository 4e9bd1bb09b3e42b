pub mod Logs
pub mod Growth
pub mod Checking
pub mod Conditions

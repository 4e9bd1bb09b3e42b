pub mod Keys
pub mod Lookups
pub mod Places
pub mod Few
pub mod Finding
pub mod Turning

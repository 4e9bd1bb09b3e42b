pub mod Drains
pub mod Losses
pub mod Races
pub mod inner

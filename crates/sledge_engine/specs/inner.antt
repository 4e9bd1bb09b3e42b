-- What serves proofs alone.
pub mod Fetches
pub mod Posing
pub mod Visible
pub mod Sinking
pub mod Lookups
pub mod Marks
pub mod Asked
pub mod Shown
pub mod Planned
pub mod Trials
pub mod Preparing
pub mod Races

pub mod Front
pub mod Passed
pub mod Wanted
pub mod Around
pub mod TypeTurns
pub mod Atoms
pub mod Nested

pub mod Verdicts
pub mod Steps
pub mod Histories
pub mod Standings
pub mod Ran

pub mod Finishing
pub mod Losing
pub mod Outcomes
pub mod Stepping
pub mod Unlost

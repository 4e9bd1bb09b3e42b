pub mod Visible
pub mod Replays
pub mod Jobs
pub mod Answers
pub mod inner

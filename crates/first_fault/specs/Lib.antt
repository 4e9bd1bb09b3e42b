pub mod Levels
pub mod Answers
pub mod Walk
pub mod Fails

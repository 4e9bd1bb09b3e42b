pub mod Winning
pub mod Answered
pub mod Unwon

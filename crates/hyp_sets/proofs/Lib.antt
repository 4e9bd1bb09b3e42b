pub mod OrderLaws
pub mod Members
pub mod Images
pub mod Joined
pub mod Kept
pub mod Answered
pub mod Ascending
pub mod Forks

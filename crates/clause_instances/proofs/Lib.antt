pub mod Answered
pub mod Passes
pub mod Gathered
pub mod OwnTyped
pub mod Instances

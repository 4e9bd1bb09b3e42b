pub mod Following
pub mod Statements
pub mod Pruning
pub mod Found
pub mod Reading
pub mod Ends
pub mod FourWords

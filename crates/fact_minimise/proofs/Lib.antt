pub mod Shorter
pub mod Rings
pub mod Counts
pub mod Turns

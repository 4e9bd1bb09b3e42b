pub mod Covering
pub mod Ranks
pub mod Weighing

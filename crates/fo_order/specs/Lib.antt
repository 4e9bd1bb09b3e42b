pub mod Counts
pub mod KnuthBendix
pub mod Eligible

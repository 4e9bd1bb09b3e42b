pub mod Bools
pub mod Splits
pub mod Whole

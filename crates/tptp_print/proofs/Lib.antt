pub mod Numbering
pub mod Stating
pub mod Wholly

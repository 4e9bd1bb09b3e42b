pub mod Theorems
pub mod Facts
pub mod Lifted

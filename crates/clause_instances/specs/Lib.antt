pub mod AtOnce
pub mod Images
pub mod Theorems
pub mod inner

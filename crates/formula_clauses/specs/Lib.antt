pub mod Choices
pub mod Sizes
pub mod Walks
pub mod Fits
pub mod Clausified
pub mod inner

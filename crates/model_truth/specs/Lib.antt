pub mod Numbers
pub mod Sizes
pub mod Values
pub mod Truth
pub mod Laws

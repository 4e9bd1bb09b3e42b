pub mod Marks
pub mod Cover
pub mod inner

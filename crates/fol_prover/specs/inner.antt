pub mod Reading
pub mod Sinking

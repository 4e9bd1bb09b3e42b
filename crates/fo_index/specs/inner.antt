pub mod Gathered
pub mod Collected
pub mod Numbered
pub mod Shelved

pub mod Walks
pub mod Instances
pub mod Numbering
pub mod Collecting
pub mod Shelved

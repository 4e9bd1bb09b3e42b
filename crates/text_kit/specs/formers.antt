pub mod rows
pub mod shared

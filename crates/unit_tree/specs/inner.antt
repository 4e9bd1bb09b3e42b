pub mod Following
pub mod Growth

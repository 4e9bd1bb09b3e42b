pub mod Ages
pub mod Buckets
pub mod Rings

pub mod Meanings
pub mod Lengths
pub mod Inserting
pub mod Chained
pub mod Listings

pub mod Insides
pub mod Covering
pub mod Flat
pub mod Unions

pub mod Written
pub mod Grown
pub mod Light
pub mod inner

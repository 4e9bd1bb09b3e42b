pub mod Lines
pub mod Tokens
pub mod Statements
pub mod Sources
pub mod Reached
pub mod Used
pub mod inner

pub mod Tables
pub mod Places
pub mod Gathers
pub mod Steps

pub mod Lookup
pub mod Unifier
pub mod Unified
pub mod Match
pub mod Shown
pub mod inner

pub mod Sublists
pub mod Minimal
pub mod Progress
pub mod Stages

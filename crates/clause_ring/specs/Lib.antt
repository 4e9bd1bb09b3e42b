pub mod Picks
pub mod inner

pub mod Steps
pub mod Standing
pub mod Keeping
pub mod Typing
pub mod Putting
pub mod Pairing
pub mod Solving

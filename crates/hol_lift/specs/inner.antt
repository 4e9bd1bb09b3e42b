pub mod Typed
pub mod Unifying
pub mod Places
pub mod Pairs
pub mod Lifting

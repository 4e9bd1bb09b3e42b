pub mod Places
pub mod Variables
pub mod Refutations
pub mod Typed
pub mod Sources
pub mod Laws
pub mod Shown
pub mod inner

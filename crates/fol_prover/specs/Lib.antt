pub mod Texts
pub mod Derivations
pub mod Proving
pub mod Replies
pub mod inner

pub mod Answers
pub mod Words
pub mod Signature
pub mod Types
pub mod Meanings
pub mod Laws
pub mod Numbers
pub mod inner

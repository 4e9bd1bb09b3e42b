pub mod Tokens
pub mod Names
pub mod Forms
pub mod Grammar
pub mod Reading
pub mod Texts
pub mod Machine
pub mod Parts

pub mod Binding
pub mod Lists
pub mod Literals
pub mod Numbering
pub mod Reading
pub mod Rows
pub mod Terms
pub mod Written

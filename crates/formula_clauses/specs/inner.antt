pub mod Scopes
pub mod Takes
pub mod Binding
pub mod Measures
pub mod Counts
pub mod Lists

pub mod Made
pub mod WalkSteps
pub mod Lengths
pub mod Binding
pub mod Sizing
pub mod Scoped
pub mod Passes
pub mod Listings

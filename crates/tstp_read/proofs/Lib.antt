mod LineEnds
pub mod Lists
pub mod Walk
pub mod Prefixes
pub mod Faults
pub mod Shapes
pub mod Giving
pub mod Bares
pub mod Bridge
pub mod Unique
pub mod Cutting
pub mod Reading
pub mod Together
pub mod Searching
pub mod Maps
pub mod Exists

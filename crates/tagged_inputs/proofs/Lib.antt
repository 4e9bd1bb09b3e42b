pub mod SignsHold
pub mod SignsOver
pub mod Sides
pub mod Atoms
pub mod Encodings

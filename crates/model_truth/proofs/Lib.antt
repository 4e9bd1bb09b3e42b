pub mod Digits
pub mod Sizing
pub mod Equations
pub mod Ranges
pub mod Substituting
pub mod Meanings
pub mod Sound
pub mod Derivations

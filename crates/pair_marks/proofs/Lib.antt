pub mod Bits
pub mod Heads
pub mod Growing
pub mod Emptiness

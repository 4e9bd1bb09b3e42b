pub mod Reading
pub mod Replays
pub mod Seats
pub mod Sweeping
pub mod Working
pub mod Watches

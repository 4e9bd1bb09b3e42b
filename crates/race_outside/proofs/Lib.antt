pub mod Rooms
pub mod Flows

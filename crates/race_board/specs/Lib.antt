pub mod Drains
pub mod Ends
pub mod Boards
pub mod Calls
pub mod inner

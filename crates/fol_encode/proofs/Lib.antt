pub mod Placing
pub mod Numbering
pub mod Gathering
pub mod Reading
pub mod Covering

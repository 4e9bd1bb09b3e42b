pub mod Cutting
pub mod Inside
pub mod Leads
pub mod Numbers
pub mod Complete
pub mod Whole
pub mod Stops
pub mod Unique

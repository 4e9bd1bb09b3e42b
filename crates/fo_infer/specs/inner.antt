pub mod Adding
pub mod Reading
pub mod Slight
pub mod Places
pub mod Covering
pub mod Components
pub mod Meeting
pub mod Findings

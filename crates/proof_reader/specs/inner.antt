pub mod Start
pub mod Rules
pub mod Words
pub mod Parts
pub mod Body

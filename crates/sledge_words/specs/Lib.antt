pub mod Options
pub mod Pieces
pub mod Lines
pub mod inner

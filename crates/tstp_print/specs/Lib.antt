pub mod Names
pub mod Terms
pub mod Formulas
pub mod Used
pub mod Lines
pub mod inner

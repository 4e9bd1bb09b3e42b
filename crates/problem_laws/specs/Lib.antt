pub mod Names
pub mod Formulas
pub mod Statements
pub mod Laws
pub mod inner

pub mod Formulas
pub mod Atoms
pub mod inner

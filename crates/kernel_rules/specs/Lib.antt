pub mod Connectives
pub mod Rules
pub mod Derivations
pub mod Formulas

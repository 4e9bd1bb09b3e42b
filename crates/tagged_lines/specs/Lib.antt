pub mod TypedLiterals
pub mod Variables
pub mod Places
pub mod Rules
pub mod Lifted
pub mod Formulas
pub mod Agreement
pub mod Tags

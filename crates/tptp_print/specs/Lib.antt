pub mod Numbers
pub mod Pages
pub mod Terms
pub mod Formulas
pub mod Problems

pub mod Gathering
pub mod Heads
pub mod Induction
pub mod NormalForms
pub mod NormalTwice
pub mod Renaming
pub mod Sameness
pub mod Substitution

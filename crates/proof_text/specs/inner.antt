pub mod Vocabularies
pub mod Fitting
pub mod Arguments

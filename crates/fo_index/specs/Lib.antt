pub mod Fronts
pub mod Candidates
pub mod inner

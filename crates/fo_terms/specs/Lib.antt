pub mod Weight
pub mod Substitution
pub mod Same
pub mod Normal
pub mod NormalLaws
pub mod inner

pub mod Slices
pub mod Constants
pub mod Scores
pub mod Ranking
pub mod Rounds
pub mod Mepo
pub mod Least
pub mod inner

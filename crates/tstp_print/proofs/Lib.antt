pub mod Marks
pub mod Citing
pub mod Places
pub mod NameSets
pub mod FreeNumbers
pub mod Separating

pub mod Tops
pub mod Words
pub mod Sets
pub mod Marking

pub mod Lexemes
pub mod Types
pub mod Shapes
pub mod Names
pub mod Written
pub mod Views
pub mod Printing
pub mod Laws

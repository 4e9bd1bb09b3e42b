pub mod Literals
pub mod Bindings
pub mod Laws

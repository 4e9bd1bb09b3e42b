pub mod Signs
pub mod Occurring
pub mod Encoding
pub mod Laws
pub mod Coverage

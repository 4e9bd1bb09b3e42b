pub mod Names
pub mod Sound
pub mod Declarations
pub mod Seen
pub mod Toks
pub mod Declaring
pub mod Reading
pub mod inner

pub mod Cells
pub mod Print
pub mod Binds
pub mod inner

pub mod Machine
pub mod Read
pub mod Leaves
pub mod Table
pub mod Refusals

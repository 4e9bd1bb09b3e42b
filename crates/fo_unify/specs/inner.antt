pub mod Triangle
pub mod Leads

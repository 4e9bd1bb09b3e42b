pub mod Headings

pub mod Nests
pub mod Steps

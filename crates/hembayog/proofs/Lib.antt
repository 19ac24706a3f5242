-- What is read through a buffer.
pub mod Inputs

-- How a line grows, and that lines tell.
pub mod Pushes
pub mod Digits
pub mod Lengths
pub mod Fields
pub mod Telling

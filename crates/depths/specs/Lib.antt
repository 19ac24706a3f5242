-- What is moved over a pile, and how piles are nested.
pub mod Beats
pub mod Nested

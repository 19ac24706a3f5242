pub mod Beats
pub mod Happening

pub mod Stores
pub mod Beats

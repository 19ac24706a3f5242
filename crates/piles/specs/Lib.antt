-- The memory below a pile.
pub mod Filled

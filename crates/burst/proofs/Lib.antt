pub mod Facts
pub mod Masks
pub mod Walks
pub mod Tiles

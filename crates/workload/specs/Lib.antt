-- The acts that move a frame.
pub mod Carried
pub mod Moves
pub mod Steps
pub mod Law

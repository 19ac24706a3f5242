-- The bursts of the frame.
pub mod Once

-- From where a beat can be held to what a register slice shows.
pub mod Fits
pub mod Making
pub mod Shows
pub mod Sound

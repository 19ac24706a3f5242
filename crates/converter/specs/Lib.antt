-- From the pieces of a beat to what a converter shows.
pub mod Pieces
pub mod Fits
pub mod Sent
pub mod Laws
pub mod Shows
pub mod Making
pub mod Sound

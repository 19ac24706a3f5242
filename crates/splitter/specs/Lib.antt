-- From the runs of a burst to what a splitter shows.
pub mod Runs
pub mod Laws
pub mod Fits
pub mod Shows
pub mod Making
pub mod Follows
pub mod Sound

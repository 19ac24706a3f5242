-- Records and acts.
pub mod Keeping
pub mod Input

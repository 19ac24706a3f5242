pub mod Extends
pub mod Carries

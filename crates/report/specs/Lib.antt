-- From the outcome of an act to the bytes of its line.
pub mod Outcomes
pub mod Lines
pub mod Texts
pub mod Laws

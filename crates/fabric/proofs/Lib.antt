pub mod Rule
pub mod Same

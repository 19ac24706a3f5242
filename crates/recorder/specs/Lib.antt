-- What a recording slave keeps.
pub mod Record

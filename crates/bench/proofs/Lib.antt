-- The report of records, and the pile.
pub mod Texts
pub mod Sofar
pub mod Stacks
pub mod Calls
pub mod Worked

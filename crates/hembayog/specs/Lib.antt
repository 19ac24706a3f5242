-- What the program says and prints.
pub mod Program

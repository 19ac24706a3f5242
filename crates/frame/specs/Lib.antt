-- From the bursts of the frame to the acts and the lines of the program.
pub mod Rows
pub mod Steps
pub mod Lines

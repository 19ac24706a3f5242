-- From acts and answers to the law over whole runs.
pub mod History
pub mod Bytes
pub mod Owed
pub mod Law
pub mod Tracks
pub mod Runs
pub mod Example

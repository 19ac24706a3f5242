pub mod Words
pub mod Worst
pub mod Calls
pub mod Soundness
pub mod Snapshots

-- From what a slave shows to what each call answers and leaves.
pub mod Meaning
pub mod Lanes
pub mod Acts
pub mod Making
pub mod Channels
pub mod Snapshots
pub mod Sound

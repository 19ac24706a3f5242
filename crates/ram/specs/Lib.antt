-- From bytes in memory to what memory shows as a slave.
pub mod Memory
pub mod Making
pub mod Shows
pub mod Sound

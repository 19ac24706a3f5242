-- From bytes to headers, records and acts.
pub mod Faults
pub mod Files
pub mod Records
pub mod Codes
pub mod Acts
pub mod Reads
pub mod Laws

-- What happens above and below an adapter, call by call.
pub mod Filled
pub mod Traces

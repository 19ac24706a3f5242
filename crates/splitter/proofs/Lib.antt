pub mod Walks
pub mod Joined
pub mod Places
pub mod Opens
pub mod Gives
pub mod Takes

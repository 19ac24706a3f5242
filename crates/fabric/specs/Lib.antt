-- From waiting requests and the rule that picks one to what each call answers and leaves.
pub mod Numbers
pub mod Rows
pub mod Picking
pub mod Waits
pub mod Channels
pub mod Acts
pub mod Lending

pub mod Room
pub mod Status
pub mod Session
pub mod Telling
pub mod Reply
pub mod Slot

pub mod KeyIn
pub mod Keyed

pub mod ArchiveText
pub mod TapeBytes
pub mod Deposits
pub mod Examined
pub mod Paper

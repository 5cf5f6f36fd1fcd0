pub mod Archives
pub mod Bytes
pub mod Faults
pub mod Lines
pub mod Drums
pub mod Papers
pub mod PlainPapers

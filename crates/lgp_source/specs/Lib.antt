pub mod Source
pub mod Seen
pub mod Runs
pub mod CuttingInside

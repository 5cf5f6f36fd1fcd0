pub mod Disassembly
pub mod Listing
pub mod Dump
pub mod Laws

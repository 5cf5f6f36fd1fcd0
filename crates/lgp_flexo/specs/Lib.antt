pub mod Code
pub mod Input
pub mod TapeText
pub mod Archive
pub mod PiecesInside
pub mod Tape
pub mod WordCodes

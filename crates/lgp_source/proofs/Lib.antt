pub mod Pieces
pub mod Places
pub mod Steps
pub mod Laws
pub mod PlainLines

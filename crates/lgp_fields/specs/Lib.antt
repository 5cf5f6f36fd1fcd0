pub mod Plain
pub mod Seen
pub mod Escaped
pub mod Printed
pub mod ReadBack
pub mod Pieces

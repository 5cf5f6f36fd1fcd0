pub mod Bounds
pub mod Rest
pub mod DecodedLemmas
pub mod ShortLemmas

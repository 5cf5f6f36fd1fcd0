pub mod ByHand
pub mod Progress
pub mod Placed

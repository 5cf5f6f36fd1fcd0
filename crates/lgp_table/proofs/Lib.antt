pub mod Costs
pub mod PassedCodes
pub mod After
pub mod Unseen
pub mod Pressed

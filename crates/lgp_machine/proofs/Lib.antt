pub mod Turns
pub mod ShortOrders
pub mod Parts

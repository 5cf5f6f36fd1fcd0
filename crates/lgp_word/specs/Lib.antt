pub mod Word
pub mod Address
pub mod Order
pub mod Decimal
pub mod Digits
pub mod Drum

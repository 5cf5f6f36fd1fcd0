pub mod Rounding
pub mod Arithmetic
pub mod Decimal

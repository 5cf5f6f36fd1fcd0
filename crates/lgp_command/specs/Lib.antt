pub mod Limits
pub mod Span
pub mod Names
pub mod Command
pub mod Operands
pub mod Sayable
pub mod CommandText
pub mod ReadBack

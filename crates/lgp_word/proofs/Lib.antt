pub mod DecimalLemmas
pub mod DigitLemmas
pub mod OrderLemmas
pub mod TextLemmas

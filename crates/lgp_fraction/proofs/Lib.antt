pub mod RoundingLemmas
pub mod ArithmeticLemmas
pub mod DecimalLemmas

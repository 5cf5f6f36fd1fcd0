-- Part of the public promise. A reply for programs is a list of records, a record a list of fields,
-- and a field a key and a plain value.
use Rattle.std.specs.Prelude.{ℕ, Bool, List}

-- no value; a number; whether a number is below zero, and the number without its sign; yes or no;
-- numbers in their order; a text
pub data Plain : Type 0 where
  Nothing : Plain
  Number : ℕ → Plain
  Signed : Bool → ℕ → Plain
  YesNo : Bool → Plain
  Numbers : List ℕ → Plain
  Text : List ℕ → Plain

pub record PlainField : Type 0 where
  pub key : List ℕ
  pub value : Plain

abbrev pub field : List ℕ → Plain → PlainField
field key value = record { key = key; value = value }

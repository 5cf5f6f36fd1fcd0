-- Part of the public promise: the script language, how a refusal is written.
use Rattle.std.specs.Prelude.{ℕ, List, ◌++◌, codes, decimal}
use Rattle.lgp_script.specs.declared.refusal.Refusal.{Refusal}
use Rattle.lgp_script.specs.declared.refusal.Refusal.TheVariants as refusals

-- a line of a text and a number
abbrev pub counted_text : List ℕ → ℕ → List ℕ
counted_text front number = front ++ (decimal number ++ codes "\n")

-- a refusal without the line feed that ends it
unfoldable pub refusal_words : Refusal → List ℕ
refusal_words refusals.Form = codes "? 1 Form"
refusal_words refusals.Moving = codes "? 2 Moving"
refusal_words refusals.AtWork = codes "? 3 AtWork"
refusal_words refusals.ClockEnd = codes "? 4 ClockEnd"
refusal_words refusals.Full = codes "? 5 Full"
refusal_words refusals.NoRule = codes "? 6 NoRule"
refusal_words (refusals.TooFar kept) = codes "? 7 TooFar " ++ decimal kept
refusal_words (refusals.NoHit kept) = codes "? 8 NoHit " ++ decimal kept
refusal_words refusals.NoImage = codes "? 10 NoImage"
refusal_words refusals.TooLong = codes "? 11 TooLong"
refusal_words (refusals.BadSign place) = codes "? 12 BadSign " ++ decimal place

unfoldable pub refusal_text : Refusal → List ℕ
refusal_text refusal = refusal_words refusal ++ codes "\n"

-- Serves proofs only: the pieces of the lines that tell of activities. A label says what comes after
-- an address.
use Rattle.std.specs.Prelude.{ℕ, List, [], ◌∷◌, decimal, map}
use Rattle.std.specs.List.{concat}
use Rattle.lgp_trace.specs.AccountLines.{performed_text, place_text, word_text}
use Rattle.lgp_trace.specs.OriginLines.{lost_text}
use Rattle.lgp_trace.specs.ProfileLines.{turns_text}
use Rattle.lgp_trace.specs.declared.phrases.Phrase.{Phrase}
use Rattle.lgp_trace.specs.declared.phrases.Phrase.TheVariants as phrases

unfoldable pub phrase_text : (ℕ → List ℕ) → Phrase → List ℕ
phrase_text label (phrases.Text text) = text.now
phrase_text label (phrases.Byte byte) = byte ∷ []
phrase_text label (phrases.Number number) = decimal number
phrase_text label (phrases.Place address) = place_text label address
phrase_text label (phrases.Order word) = performed_text label word
phrase_text label (phrases.Word word) = word_text label word
phrase_text label (phrases.Lost word) = lost_text label word
phrase_text label (phrases.Turns times) = turns_text times

-- one after another
abbrev pub phrases_text : (ℕ → List ℕ) → List Phrase → List ℕ
phrases_text label phrases = concat (map (phrase_text label) phrases)

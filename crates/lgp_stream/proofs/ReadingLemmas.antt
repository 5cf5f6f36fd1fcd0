-- The lines of a text that is read, whose bytes are taken one after another.
use Rattle.std.proofs.Common.{◌≡◌, ℕ, Bool, true, false, cond, eqb, Option, Some, None, IfSome, List, [], ◌∷◌, ◌++◌, length, refl, sym, ap, subst, ◌∙◌, append_assoc, arith}
use Rattle.std.specs.Io.KnownBytes.{Consumes, IsAtEnd}
use Rattle.std.specs.Str.Lines.{lines, strip_carriage_return}
use Rattle.std.proofs.lemmas.Bool.Decides.{nat_tests}
use Rattle.std.proofs.lemmas.List.{append-nil}
use Rattle.lgp_stream.specs.KeptLine.{Kept}
use Rattle.lgp_stream.specs.OpenLineInside.{Open, is_unbegun, open_of, open_push, whole}
use Rattle.lgp_stream.specs.LineReading.{HasLine, left_of}
use Rattle.lgp_stream.specs.ReadingInside.{HasByte, HasTaken}
use Rattle.lgp_stream.specs.Transcript.{IsLine}
use Rattle.lgp_stream.proofs.CutLemmas.{IsLine-push, lines-feed, lines-open}
use Rattle.lgp_stream.proofs.KnownLemmas.{Consumes-trans}
use Rattle.lgp_stream.proofs.LineLemmas.{is_unbegun-open_of, kept-open_of, open_push-open_of, whole-open_of}

-- ---- bytes that are taken into a line: none yet, one more, a line feed, no more, and a read that fails

more_taken : (before now next : Option (List ℕ)) (line : Open) (bytes : List ℕ) (taken : HasTaken before now line false) → Consumes now next bytes → Consumes before next (taken.taken ++ bytes)
more_taken before now next line bytes taken consumed = rw (append-nil taken.taken) at (Consumes-trans before now next (taken.taken ++ []) bytes taken.consumed consumed)

pub taken-more : (before now next : Option (List ℕ)) (line later : Open) (byte : ℕ) → HasTaken before now line false → HasByte now next (Some byte) → (byte ≡ 10 → ⊥) → later ≡ open_push line byte
    → HasTaken before next later false
taken-more before now next line later byte taken has other pushed =
    let test : eqb byte 10 ≡ false = grind (arith, nat_tests) in
    record {
      taken = taken.taken ++ byte ∷ [];
      is_line = IsLine-push taken.taken byte taken.is_line test;
      line_at = pushed ∙ (ap (λ (o : Open). open_push o byte) taken.line_at ∙ open_push-open_of taken.taken byte);
      consumed = rw (append-nil (taken.taken ++ byte ∷ [])) (more_taken before now next line (byte ∷ []) taken has);
    }

-- ---- a line that is taken: with its line feed, none, and the last one

pub line-feed : (before after : Option (List ℕ)) (line : Open) (kept : Kept) → HasTaken before after line true → kept ≡ line.kept → HasLine before after (Some kept)
line-feed before after line kept taken is_kept =
    (strip_carriage_return taken.taken, is_kept ∙ (ap (λ (o : Open). o.kept) taken.line_at ∙ kept-open_of taken.taken), first before after taken.consumed) where
      first : (b a : Option (List ℕ)) → Consumes b a (taken.taken ++ 10 ∷ []) → IfSome b (λ text. (rest : List ℕ) × (lines text ≡ strip_carriage_return taken.taken ∷ lines rest) × (a ≡ Some rest))
      first None a consumed = tt
      first (Some text) None consumed = absurd consumed
      first (Some text) (Some rest) consumed = (rest, ap lines (consumed ∙ append_assoc taken.taken (10 ∷ []) rest) ∙ lines-feed taken.taken rest taken.is_line, refl)

nothing_left : (before after : Option (List ℕ)) (taken : List ℕ) → Consumes before after (taken ++ []) → IsAtEnd after → IfSome before (λ text. (text ≡ taken) × (after ≡ Some []))
nothing_left None after taken consumed end = tt
nothing_left (Some text) None taken consumed end = absurd consumed
nothing_left (Some text) (Some rest) taken consumed end =
    (consumed ∙ (ap (λ (more : List ℕ). (taken ++ []) ++ more) end ∙ (append-nil (taken ++ []) ∙ append-nil taken)), ap (λ (more : List ℕ). Some more) end)

unbegun-taken : (line : Open) (taken : List ℕ) (begun : Bool) → line ≡ open_of taken → is_unbegun line ≡ begun → eqb (length taken) 0 ≡ begun
unbegun-taken line taken begun at is = sym (is_unbegun-open_of taken) ∙ (ap is_unbegun (sym at) ∙ is)

pub lines-taken : (line : Open) (taken : List ℕ) (begun : Bool) → IsLine taken → line ≡ open_of taken → is_unbegun line ≡ begun → lines taken ≡ cond begun [] (taken ∷ [])
lines-taken line taken begun free at is = lines-open taken free ∙ ap (λ none. cond none [] (taken ∷ [])) (unbegun-taken line taken begun at is)

pub line-none : (before after : Option (List ℕ)) (line : Open) → HasTaken before after line false → IsAtEnd after → is_unbegun line ≡ true → HasLine before after None
line-none before after line taken end unbegun = none before (nothing_left before after taken.taken taken.consumed end) where
  none : (at : Option (List ℕ)) → IfSome at (λ text. (text ≡ taken.taken) × (after ≡ Some [])) → IfSome at (λ text. (lines text ≡ []) × (after ≡ Some []))
  none None left = tt
  none (Some text) left = (ap lines left.0 ∙ lines-taken line taken.taken true taken.is_line taken.line_at unbegun, left.1)

pub line-last : (before after : Option (List ℕ)) (line : Open) (kept : Kept) → HasTaken before after line false → IsAtEnd after → is_unbegun line ≡ false → kept ≡ whole line → HasLine before after (Some kept)
line-last before after line kept taken end begun is_kept =
    (taken.taken, is_kept ∙ (ap whole taken.line_at ∙ whole-open_of taken.taken), last before (nothing_left before after taken.taken taken.consumed end)) where
      last : (at : Option (List ℕ)) → IfSome at (λ text. (text ≡ taken.taken) × (after ≡ Some []))
          → IfSome at (λ text. (rest : List ℕ) × (lines text ≡ taken.taken ∷ lines rest) × (after ≡ Some rest))
      last None left = tt
      last (Some text) left = ([], ap lines left.0 ∙ lines-taken line taken.taken false taken.is_line taken.line_at begun, left.1)

-- ---- a byte of what was read

byte-unread : (unread rest : List ℕ) (byte : ℕ) (remaining : Option (List ℕ)) → unread ≡ byte ∷ rest → Consumes (left_of unread remaining) (left_of rest remaining) (byte ∷ [])
byte-unread unread rest byte None is = tt
byte-unread unread rest byte (Some more) is = ap (λ (at : List ℕ). at ++ more) is

-- all that was read is in a line, and bytes are read now, or cannot be read
pub same-read : (unread bytes : List ℕ) (before after : Option (List ℕ)) → unread ≡ [] → Consumes before after bytes → Consumes (left_of unread before) (left_of bytes after) []
same-read unread bytes None after none consumed = tt
same-read unread bytes (Some text) None none consumed = absurd consumed
same-read unread bytes (Some text) (Some more) none consumed = ap (λ (at : List ℕ). at ++ text) none ∙ consumed

byte-first : (unread now rest : List ℕ) (byte : ℕ) (before remaining : Option (List ℕ)) → Consumes (left_of unread before) (left_of now remaining) [] → now ≡ byte ∷ rest
    → HasByte (left_of unread before) (left_of rest remaining) (Some byte)
byte-first unread now rest byte before remaining same is =
    Consumes-trans (left_of unread before) (left_of now remaining) (left_of rest remaining) [] (byte ∷ []) same (byte-unread now rest byte remaining is)

-- the next byte, after what was read has been read on
pub byte-next : (unread now rest : List ℕ) (before remaining : Option (List ℕ)) (got : Option ℕ) → Consumes (left_of unread before) (left_of now remaining) [] → (now ≡ [] → IsAtEnd (left_of now remaining))
    → IfSome got (λ byte. now ≡ byte ∷ rest) → (got ≡ None → (now ≡ []) × (rest ≡ [])) → HasByte (left_of unread before) (left_of rest remaining) got
byte-next unread now rest before remaining None same end some none =
    let same_rest : now ≡ rest = (none refl).0 ∙ sym (none refl).1 in
    (subst (λ (at : List ℕ). Consumes (left_of unread before) (left_of at remaining) []) same_rest same, subst (λ (at : List ℕ). IsAtEnd (left_of at remaining)) same_rest (end (none refl).0))
byte-next unread now rest before remaining (Some byte) same end some none = byte-first unread now rest byte before remaining same some

pub byte-is : (now after : Option (List ℕ)) (got next : Option ℕ) → got ≡ next → HasByte now after got → HasByte now after next
byte-is now after got next is has = subst (λ (at : Option ℕ). HasByte now after at) is has

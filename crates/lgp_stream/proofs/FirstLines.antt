-- The first line of a text, whose bytes are taken one after another.
use Rattle.std.proofs.Common.{◌≡◌, ℕ, ◌+◌, ◌-◌, ◌<◌, ◌≤◌, false, List, [], ◌∷◌, ◌++◌, length, take, drop, get_or, take-append-drop, sym, ap, ◌∙◌, eqb, cond, arith}
use Rattle.std.specs.Str.Lines.{lines, strip_carriage_return}
use Rattle.std.proofs.lemmas.Bool.Decides.{nat_tests}
use Rattle.std.proofs.lemmas.List.{drop_all, drop_more, length-drop, take_all, take_more}
use Rattle.lgp_stream.specs.KeptLine.{IsFirstLine, Kept}
use Rattle.lgp_stream.specs.OpenLineInside.{Open, open_of, open_push, whole}
use Rattle.lgp_stream.proofs.CutLemmas.{IsLine-push, lines-feed, lines-open}
use Rattle.lgp_stream.proofs.LineLemmas.{kept-open_of, open_push-open_of, whole-open_of}
use Rattle.lgp_stream.specs.Transcript.{IsLine}

-- a given number of bytes of a text were taken, and none of them is a line feed
pub record IsWithin (text : List ℕ) (place : ℕ) (line : Open) : Type 0 where
  pub is_open : IsLine (take place text)
  pub open_at : line ≡ open_of (take place text)

pub within-none : (text : List ℕ) (line : Open) → line ≡ open_of [] → IsWithin text 0 line
within-none text line e = record { is_open = tt; open_at = e }

pub within-more : (text : List ℕ) (place : ℕ) (line next : Open) → place < length text → IsWithin text place line → (get_or text place 0 ≡ 10 → ⊥)
    → next ≡ open_push line (get_or text place 0) → IsWithin text (place + 1) next
within-more text place line next inside within other pushed =
    let more : take (place + 1) text ≡ take place text ++ get_or text place 0 ∷ [] = take_more text place 0 inside in
    let test : eqb (get_or text place 0) 10 ≡ false = grind (arith, nat_tests) in
    record {
      is_open = rw more (IsLine-push (take place text) (get_or text place 0) within.is_open test);
      open_at = rw more (pushed ∙ (ap (λ (o : Open). open_push o (get_or text place 0)) within.open_at ∙ open_push-open_of _ _));
    }

rest_after : (text : List ℕ) (n : ℕ) → n ≤ length text → drop n text ≡ drop (length text - length (drop n text)) text
rest_after text n within =
    let same : n ≡ length text - length (drop n text) = rw (length-drop n text) (omega arith) in
    ap (λ (k : ℕ). drop k text) same

pub first-feed : (text : List ℕ) (place : ℕ) (line : Open) (kept : Kept) → place < length text → IsWithin text place line → get_or text place 0 ≡ 10 → kept ≡ line.kept
    → IsFirstLine text kept (drop (place + 1) text)
first-feed text place line kept inside within feed is_kept =
    let piece = take place text in
    let cut : text ≡ piece ++ 10 ∷ drop (place + 1) text =
    sym (take-append-drop place text) ∙ (ap (λ (rest : List ℕ). piece ++ rest) (drop_more text place 0 inside)
    ∙ ap (λ (byte : ℕ). piece ++ byte ∷ drop (place + 1) text) feed) in
    record {
      first = strip_carriage_return piece;
      is_kept = is_kept ∙ (ap (λ (o : Open). o.kept) within.open_at ∙ kept-open_of piece);
      lines_are = ap lines cut ∙ lines-feed piece (drop (place + 1) text) within.is_open;
      rest_is = rest_after text (place + 1) (omega arith);
    }

pub first-last : (text : List ℕ) (place : ℕ) (line : Open) (kept : Kept) → 0 < length text → length text ≤ place → IsWithin text place line → kept ≡ whole line → IsFirstLine text kept []
first-last text place line kept some past within is_kept =
    let all : take place text ≡ text = take_all place text past in
    let free : IsLine text = rw all at within.is_open in
    let test : eqb (length text) 0 ≡ false = grind (arith, nat_tests) in
    record {
      first = text;
      is_kept = is_kept ∙ (ap whole (rw all at within.open_at) ∙ whole-open_of text);
      lines_are = lines-open text free ∙ ap (λ none. cond none [] (text ∷ [])) test;
      rest_is = sym (drop_all (length text - 0) text (omega arith));
    }

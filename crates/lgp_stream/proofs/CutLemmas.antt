-- A text that is taken line by line.
use Rattle.std.proofs.Common.{◌≡◌, ℕ, ◌+◌, Bool, true, false, cond, List, [], ◌∷◌, ◌++◌, length, take, count_by, refl, sym, ap, ◌∙◌, eqb, append_assoc, length-append, add-zero}
use Rattle.std.specs.List.{onto_first, slice_split}
use Rattle.std.specs.Str.Lines.{lines, lines_of_parts, strip_carriage_return}
use Rattle.std.proofs.lemmas.List.{append-nil}
use Rattle.std.proofs.lemmas.List.Sums.{sum_by-append}
use Rattle.std.proofs.lemmas.List.Splits.{slice_split_at, slice_split_none}
use Rattle.std.proofs.lemmas.List.Elements.{All-from_recursion}
use Rattle.std.proofs.Math.Seq.{take-append_seam}
use Rattle.lgp_stream.specs.Language.{complete_lines, is_line_feed}
use Rattle.lgp_stream.specs.Transcript.{IsLine}

-- bytes are these complete lines, whatever follows them
pub record IsCut (bytes : List ℕ) (complete : List (List ℕ)) : Type 0 where
  pub cut : (more : List ℕ) → lines (bytes ++ more) ≡ complete ++ lines more
  pub feeds : count_by is_line_feed bytes ≡ length complete

-- a byte more of a line
pub IsLine-push : (line : List ℕ) (byte : ℕ) → IsLine line → eqb byte 10 ≡ false → IsLine (line ++ byte ∷ [])
IsLine-push [] byte free other = (other, tt)
IsLine-push (first ∷ line) byte free other = (free.0, IsLine-push line byte free.1 other)

-- the parts of a text are at least one
data IsSplit : List (List ℕ) → Type 0 where
  parts : (first : List ℕ) (more : List (List ℕ)) → IsSplit (first ∷ more)

slice_split-parts : (bytes : List ℕ) → IsSplit (slice_split (λ byte. eqb byte 10) bytes)
slice_split-parts [] = parts [] []
slice_split-parts (byte ∷ bytes) = by_feed (eqb byte 10) (slice_split (λ byte. eqb byte 10) bytes) where
  by_feed : (feed : Bool) (rest : List (List ℕ)) → IsSplit (cond feed ([] ∷ rest) (onto_first byte rest))
  by_feed true rest = parts [] rest
  by_feed false [] = parts (byte ∷ []) []
  by_feed false (first ∷ more) = parts (byte ∷ first) more

lines_of_parts-more : (line : List ℕ) (rest : List (List ℕ)) → IsSplit rest → lines_of_parts (line ∷ rest) ≡ strip_carriage_return line ∷ lines_of_parts rest
lines_of_parts-more line _ (parts first more) = refl

pub lines-feed : (line bytes : List ℕ) → IsLine line → lines (line ++ 10 ∷ bytes) ≡ strip_carriage_return line ∷ lines bytes
lines-feed line bytes free =
    rw (slice_split_at _ _ 10 bytes (All-from_recursion (λ byte. eqb byte 10 ≡ false) line free) refl)
    (lines_of_parts-more line _ (slice_split-parts bytes))

pub lines-open : (line : List ℕ) → IsLine line → lines line ≡ cond (eqb (length line) 0) [] (line ∷ [])
lines-open line free = rw (slice_split_none _ line (All-from_recursion (λ byte. eqb byte 10 ≡ false) line free)) refl

feeds-append : (bytes more : List ℕ) → count_by is_line_feed (bytes ++ more) ≡ count_by is_line_feed bytes + count_by is_line_feed more
feeds-append bytes more = sum_by-append (λ byte. cond (is_line_feed byte) 1 0) bytes more

feeds-line : (line : List ℕ) → IsLine line → count_by is_line_feed line ≡ 0
feeds-line [] free = refl
feeds-line (byte ∷ line) free = rw free.0 (feeds-line line free.1)

-- no bytes; a line and its line feed more
pub IsCut-none : IsCut [] []
IsCut-none = record { cut = λ more. refl; feeds = refl }

pub IsCut-feed : (bytes : List ℕ) (complete : List (List ℕ)) (line : List ℕ) → IsCut bytes complete → IsLine line → IsCut (bytes ++ (line ++ 10 ∷ [])) (complete ++ strip_carriage_return line ∷ [])
IsCut-feed bytes complete line is_cut free = record {
  cut = λ more. rw (append_assoc bytes (line ++ 10 ∷ []) more, append_assoc line (10 ∷ []) more, append_assoc complete (strip_carriage_return line ∷ []) (lines more), ← lines-feed line more free) (is_cut.cut (line ++ 10 ∷ more));
  feeds = rw (feeds-append bytes (line ++ 10 ∷ []), feeds-append line (10 ∷ []), feeds-line line free, length-append complete (strip_carriage_return line ∷ []), is_cut.feeds) refl;
}

pub IsCut-lines : (bytes : List ℕ) (complete : List (List ℕ)) → IsCut bytes complete → lines bytes ≡ complete
IsCut-lines bytes complete is_cut = ap lines (sym (append-nil bytes)) ∙ (is_cut.cut [] ∙ append-nil complete)

-- the complete lines where a line has begun after them
pub IsCut-complete : (bytes : List ℕ) (complete : List (List ℕ)) (line : List ℕ) → IsCut bytes complete → IsLine line → complete_lines (bytes ++ line) ≡ complete
IsCut-complete bytes complete line is_cut free =
    let feeds : count_by is_line_feed (bytes ++ line) ≡ length complete = rw (feeds-append bytes line, feeds-line line free, add-zero (count_by is_line_feed bytes)) is_cut.feeds in
    ap (λ (n : ℕ). take n (lines (bytes ++ line))) feeds
    ∙ (ap (λ (all : List (List ℕ)). take (length complete) all) (is_cut.cut line)
    ∙ take-append_seam complete (lines line))

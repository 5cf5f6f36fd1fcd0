-- A drum whose dump is read line by line.
use Rattle.std.proofs.Common.{◌≡◌, ◌<◌, ◌≤◌, ◌+◌, ◌++◌, ℕ, zero, suc, List, [], ◌∷◌, length, take, drop, get_or, set, Some, None, refl, sym, ap, subst, ◌∙◌, arith, ⊎_elim, eqb, length-set}
use Rattle.std.specs.List.{flat_map}
use Rattle.std.proofs.lemmas.Bool.{cond-false, cases_lt, ne_eqb}
use Rattle.std.proofs.lemmas.Option.{none-some}
use Rattle.std.proofs.lemmas.List.{append_assoc, append-nil, take-append-drop, length-drop, length-replicate, get_or-replicate, get_or_past, get_or-set_other}
use Rattle.std.proofs.lemmas.List.Elements.{All-set, All-from_get_or}
use Rattle.bstr.specs.Text.{line_len, lines_from, lines_of}
use Rattle.bstr.proofs.lemmas.LineLemmas.{line_len-bounds}
use Rattle.lgp_word.specs.Word.{IsWord}
use Rattle.lgp_word.specs.Drum.{blank_words}
use Rattle.lgp_listing.specs.declared.reading.DumpFault.TheVariants.{Form, Order}
use Rattle.lgp_listing.specs.Dump.{IsDrum, cell_line, word_line, dump_from, dump_of, cell_in, fault_from, first_fault}
use Rattle.lgp_listing.proofs.Cells.{cell_line-cell_in}
use Rattle.lgp_listing.proofs.FaultSteps.{at_form, at_order, onward}

abbrev pub joined : List (List ℕ) → List ℕ
joined lines = flat_map (λ line. line) lines

-- the lines of a text, joined, are the text
joined_from : (fuel : ℕ) (text : List ℕ) → length text ≤ fuel → joined (lines_from fuel text) ≡ text
unfolding lines_from
joined_from zero [] few = refl
joined_from zero (b ∷ rest) few = absurd (omega arith)
joined_from (suc fuel) [] few = refl
joined_from (suc fuel) (b ∷ rest) few =
    let text = b ∷ rest in
    let some = (line_len-bounds text (omega arith)).0 in
    ap (λ t. take (line_len text) text ++ t) (joined_from fuel (drop (line_len text) text) (simp length-drop (omega arith)))
    ∙ take-append-drop (line_len text) text

pub joined_lines : (text : List ℕ) → joined (lines_of text) ≡ text
joined_lines text = joined_from _ _ (omega arith)

-- zeros have no lines
zeros_dump : (from : ℕ) (words : List ℕ) → ((k : ℕ) → get_or words k 0 ≡ 0) → dump_from from words ≡ []
zeros_dump from [] zeros = refl
zeros_dump from (word ∷ words) zeros =
    ap (λ w. word_line from w ++ dump_from (from + 1) words) (zeros 0) ∙ zeros_dump (from + 1) words (λ k. zeros (suc k))

-- a word put after all others that are not zero adds its line
dump_set : (from k word : ℕ) (words : List ℕ) → k < length words → ((j : ℕ) → k ≤ j → get_or words j 0 ≡ 0)
    → dump_from from (set words k word) ≡ dump_from from words ++ word_line (from + k) word
dump_set from k word [] within zeros = absurd (omega arith)
dump_set from zero word (old ∷ words) within zeros =
    let none : dump_from (from + 1) words ≡ [] = zeros_dump (from + 1) words (λ j. zeros (suc j) (omega arith)) in
    let here : from ≡ from + 0 = omega arith in
    ap (λ t. word_line from word ++ t) none ∙ append-nil (word_line from word) ∙ ap (λ a. word_line a word) here
    ∙ sym (ap (λ w. (word_line from w ++ dump_from (from + 1) words) ++ word_line (from + 0) word) (zeros 0 (omega arith)) ∙ ap (λ t. t ++ word_line (from + 0) word) none)
dump_set from (suc k) word (old ∷ words) within zeros =
    let there : from + 1 + k ≡ from + suc k = omega arith in
    ap (λ t. word_line from old ++ t) (dump_set (from + 1) k word words (omega arith) (λ j above. zeros (suc j) (omega arith)))
    ∙ sym (append_assoc (word_line from old) (dump_from (from + 1) words) (word_line (from + 1 + k) word))
    ∙ ap (λ a. (word_line from old ++ dump_from (from + 1) words) ++ word_line a word) there

-- what has been read of a text, and what is left
pub record IsReadSo (number least : ℕ) (words : List ℕ) (lines : List (List ℕ)) (text : List ℕ) : Type 0 where
  pub is_drum : IsDrum words
  pub above : (k : ℕ) → least ≤ k → get_or words k 0 ≡ 0
  pub sound : fault_from number least lines ≡ None
  pub text_is : dump_of words ++ joined lines ≡ text

size_blank : length blank_words ≡ 4096
unfolding blank_words
size_blank = length-replicate {A = ℕ} 4096 0

blank : (k : ℕ) → get_or blank_words k 0 ≡ 0
unfolding blank_words
blank k = ⊎_elim
    (λ within. get_or-replicate {A = ℕ} 4096 k 0 0 within)
    (λ past. get_or_past blank_words k 0 (subst (λ n. n ≤ k) (sym size_blank) past))
    (cases_lt k 4096)

pub read_none : (words text : List ℕ) → words ≡ blank_words → first_fault text ≡ None → IsReadSo 1 0 words (lines_of text) text
unfolding dump_of
read_none words text is sound =
    let zeros : (k : ℕ) → get_or words k 0 ≡ 0 = λ k. ap (λ ws. get_or ws k 0) is ∙ blank k in
    record {
      is_drum = record {
        size = ap length is ∙ size_blank;
        words_are = All-from_get_or IsWord words 0 (λ k _. subst IsWord (sym (zeros k)) (omega arith, refl));
      };
      above = λ k _. zeros k;
      sound = sound;
      text_is = ap (λ t. t ++ joined (lines_of text)) (zeros_dump 0 _ zeros) ∙ joined_lines _;
    }

module _ (number least : ℕ) (words line : List ℕ) (rest : List (List ℕ)) (text : List ℕ) (so_far : IsReadSo number least words (line ∷ rest) text) where
  -- no line is misformed
  pub in_form : cell_in line ≡ None → ⊥
  in_form none = none-some (Form number) (sym so_far.sound ∙ at_form line rest number least none)

  line_above : (cell : ℕ × ℕ) → cell_in line ≡ Some cell → least ≤ cell.0
  line_above cell read = ⊎_elim
      (λ below. absurd (none-some (Order number) (sym so_far.sound ∙ at_order _ rest number least cell read below)))
      (λ high. high)
      (cases_lt cell.0 least)

  pub read_more : (cell : ℕ × ℕ) → cell_in line ≡ Some cell → IsReadSo (number + 1) (cell.0 + 1) (set words cell.0 cell.1) rest text
  unfolding dump_of
  read_more cell read =
      let is_line = cell_line-cell_in _ _ read in
      let low = line_above _ read in
      let within : cell.0 < length words = omega (arith, so_far.is_drum.size, is_line.address_is) in
      let lined : word_line cell.0 cell.1 ≡ line = cond-false (eqb cell.1 0) [] (cell_line cell.0 cell.1) (ne_eqb cell.1 0 is_line.some) ∙ sym is_line.line_is in
      let from_zero : 0 + cell.0 ≡ cell.0 = omega arith in
      record {
        is_drum = record {
          size = length-set words cell.0 cell.1 ∙ so_far.is_drum.size;
          words_are = All-set IsWord words cell.0 cell.1 is_line.word_is so_far.is_drum.words_are;
        };
        above = λ k high. get_or-set_other words cell.0 k cell.1 0 (λ e. absurd (omega arith)) ∙ so_far.above k (omega arith);
        sound = sym (onward line rest number least cell read low) ∙ so_far.sound;
        text_is = ap (λ t. t ++ joined rest) (dump_set 0 _ _ _ within (λ j high. so_far.above j (omega arith))
            ∙ ap (λ a. dump_from 0 words ++ word_line a cell.1) from_zero ∙ ap (λ t. dump_from 0 words ++ t) lined)
            ∙ append_assoc (dump_from 0 words) line (joined rest) ∙ so_far.text_is;
      }

pub read_all : (number least : ℕ) (words : List ℕ) (lines : List (List ℕ)) (text : List ℕ) → IsReadSo number least words lines text → lines ≡ [] → dump_of words ≡ text
read_all number least words lines text so_far none =
    sym (append-nil (dump_of words)) ∙ ap (λ ls. dump_of words ++ joined ls) (sym none) ∙ so_far.text_is

-- The words of a drum are read from the lines of its words.
use Rattle.std.proofs.Common.{◌≡◌, ◌⊎◌, ◌≤◌, ◌+◌, ◌++◌, ◌==◌, ℕ, List, [], ◌∷◌, length, map, replicate, None, refl, sym, ap, subst, ◌∙◌, arith, inl, inr, ⊎_elim}
use Rattle.std.specs.List.{All}
use Rattle.std.proofs.lemmas.Bool.{cond-true, cond-false, cases_eq, eq-eqb, ne_eqb}
use Rattle.std.proofs.lemmas.List.{append_assoc, set_at, length_push}
use Rattle.std.proofs.lemmas.List.Elements.{All-head, All-tail}
use Rattle.bstr.specs.Text.{without_terminator}
use Rattle.bstr.proofs.lemmas.LineLemmas.{lines-nil}
use Rattle.lgp_word.specs.Address.{IsAddress}
use Rattle.lgp_word.specs.Drum.{blank_words}
use Rattle.lgp_word.specs.Word.{IsWord}
use Rattle.lgp_listing.specs.Dump.{IsDrum}
use Rattle.lgp_exchange.specs.Deposits.{deposit_line, deposits_of, lines_from, shown_line, shown_words, used_deposit}
use Rattle.lgp_exchange.specs.Examined.{IsReadAs, fault_from, lines_in, words_after}
use Rattle.lgp_exchange.proofs.Faults.{onward, words-some}
use Rattle.lgp_exchange.proofs.Lines.{IsLineRead, deposit_read, shown_read}

-- what an address and its word have in a text: nothing, for a word of zeros, or a line that is read as them
abbrev Reads : (ℕ → ℕ → List ℕ) → Type 0
Reads line = (address word : ℕ) → IsAddress address → IsWord word
    → ((line address word ≡ []) × (word ≡ 0)) ⊎ IsLineRead (line address word) address word

-- the lines of a text that begins with a line
lines_more : (line rest : List ℕ) (address word : ℕ) → IsLineRead line address word → lines_in (line ++ rest) ≡ without_terminator line ∷ lines_in rest
lines_more line rest address word is = ap (map without_terminator) (is.first rest)

module _ (line : ℕ → ℕ → List ℕ) (reads : Reads line) where
  faultless_from : (number least from : ℕ) (words : List ℕ) → least ≤ from → from + length words ≤ 4096 → All IsWord words
      → fault_from number least (lines_in (lines_from line from words)) ≡ None
  unfolding fault_from
  faultless_from number least from [] low high all = ap (λ lines. fault_from number least (map without_terminator lines)) lines-nil
  faultless_from number least from (word ∷ words) low high all =
      let rest = lines_from line (from + 1) words in
      ⊎_elim
      (λ none. ap (λ l. fault_from number least (lines_in (l ++ rest))) none.0
      ∙ faultless_from number least (from + 1) words (omega arith) (omega arith) (All-tail IsWord word words all))
      (λ some. ap (fault_from number least) (lines_more (line from word) rest from word some)
      ∙ onward (without_terminator (line from word)) (lines_in rest) number least (from, word) some.cell low
      ∙ faultless_from (number + 1) (from + 1) (from + 1) words (omega arith) (omega arith) (All-tail IsWord word words all))
      (reads from word (omega arith) (All-head IsWord word words all))

  -- words that were put, and zeros, after the lines of as many words more
  words_put : (done words : List ℕ) → length done + length words ≤ 4096 → All IsWord words
      → words_after (done ++ replicate (length words) 0) (lines_in (lines_from line (length done) words)) ≡ done ++ words
  unfolding words_after
  words_put done [] high all = ap (λ lines. words_after (done ++ []) (map without_terminator lines)) lines-nil
  words_put done (word ∷ words) high all =
      let from = length done in
      let zeros : List ℕ = replicate (length words) 0 in
      let rest = lines_from line (from + 1) words in
      let more = done ++ word ∷ [] in
      let size : length more ≡ from + 1 = length_push done word in
      let after : words_after (more ++ zeros) (lines_in rest) ≡ more ++ words =
      subst (λ n. words_after (more ++ zeros) (lines_in (lines_from line n words)) ≡ more ++ words) size
      (words_put more words (omega (arith, size)) (All-tail IsWord word words all)) in
      let last : words_after (done ++ word ∷ zeros) (lines_in rest) ≡ done ++ word ∷ words =
      ap (λ ws. words_after ws (lines_in rest)) (sym (append_assoc done (word ∷ []) zeros)) ∙ after ∙ append_assoc done (word ∷ []) words in
      ⊎_elim
      (λ none. ap (λ l. words_after (done ++ 0 ∷ zeros) (lines_in (l ++ rest))) none.0
      ∙ ap (λ w. words_after (done ++ w ∷ zeros) (lines_in rest)) (sym none.1) ∙ last)
      (λ some. ap (words_after (done ++ 0 ∷ zeros)) (lines_more (line from word) rest from word some)
      ∙ sym (words-some (done ++ 0 ∷ zeros) (without_terminator (line from word)) (lines_in rest) (from, word) some.cell)
      ∙ ap (λ ws. words_after ws (lines_in rest)) (set_at done 0 zeros word from refl) ∙ last)
      (reads from word (omega arith) (All-head IsWord word words all))

  is_read_as : (words : List ℕ) → IsDrum words → IsReadAs (lines_from line 0 words) words
  unfolding blank_words
  is_read_as words is_drum = record {
    no_fault = faultless_from 1 0 0 words (omega arith) (omega (arith, is_drum.size)) is_drum.words_are;
    words_are = ap (λ n. words_after (replicate n 0) (lines_in (lines_from line 0 words))) (sym is_drum.size)
        ∙ words_put [] words (omega (arith, is_drum.size)) is_drum.words_are;
  }

deposits-read : Reads used_deposit
deposits-read address word is_address is_word = ⊎_elim
    (λ none. inl (cond-true (word == 0) [] (deposit_line address word) (eq-eqb word 0 none), none))
    (λ some. inr (subst (λ l. IsLineRead l address word) (sym (cond-false (word == 0) [] (deposit_line address word) (ne_eqb word 0 some)))
    (deposit_read address word is_address is_word)))
    (cases_eq word 0)

shown-read : Reads shown_line
shown-read address word is_address is_word = inr (shown_read address word is_address is_word)

pub deposits_read_back : (words : List ℕ) → IsDrum words → IsReadAs (deposits_of words) words
unfolding deposits_of
deposits_read_back words is_drum = is_read_as used_deposit deposits-read words is_drum

pub shown_read_back : (words : List ℕ) → IsDrum words → IsReadAs (shown_words words) words
unfolding shown_words
shown_read_back words is_drum = is_read_as shown_line shown-read words is_drum

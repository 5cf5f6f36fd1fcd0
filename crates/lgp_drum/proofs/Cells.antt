-- The cells of the drum, by address.
use Rattle.std.proofs.Common.{◌≡◌, ℕ, ◌+◌, ◌*◌, ◌<◌, List, length, replicate, map, slice_index, slice_set, take, drop, ◌-◌, inl, inr, arith, sym, ◌∙◌, ap}
use Rattle.std.specs.List.{range_with_len}
use Rattle.std.proofs.lemmas.List.FromFn.{fill_by_all, length-map-range_with_len, get_or-map-range_with_len}
use Rattle.std.proofs.lemmas.List.{length-set, length-replicate, get_or-replicate, get_or-set_same, get_or-set_other, get_or-take, get_or-drop}
use Rattle.std.proofs.lemmas.Bool.{cases_eq}
use Rattle.lgp_word.specs.Drum.{blank_words, position_of}
use Rattle.lgp_drum.specs.DrumInside.{by_address, place_of}

-- a list by the numbers of its items
tabulated : (f : ℕ → ℕ) (n i : ℕ) → i < n → slice_index (map f (range_with_len 0 n)) i ≡ f i
tabulated f n i within = get_or-map-range_with_len f 0 n i i 0 within (omega arith)

pub length-by_address : (cells : List ℕ) → length (by_address cells) ≡ 4096
unfolding by_address
length-by_address cells = length-map-range_with_len (λ address. slice_index cells (place_of address)) 0 4096

pub slice_index-by_address : (cells : List ℕ) (address : ℕ) → address < 4096 → slice_index (by_address cells) address ≡ slice_index cells (place_of address)
unfolding by_address
slice_index-by_address cells address within = tabulated (λ address. slice_index cells (place_of address)) 4096 address within

place_of-within : (address : ℕ) → address < 4096 → place_of address < 4096
place_of-within address within = omega arith

-- no two addresses have one cell
place_of-one : (a b : ℕ) → a < 4096 → b < 4096 → place_of a ≡ place_of b → a ≡ b
place_of-one a b within_a within_b same = omega arith

-- one list shows at k what another shows at q: so it is after the same word was set at the one's address and at the other's place
after_set : (words cells : List ℕ) (address place word k q : ℕ) → slice_index words k ≡ slice_index cells q → (k ≡ address → q ≡ place) → (q ≡ place → k ≡ address) → address < length words → place < length cells → slice_index (slice_set words address word) k ≡ slice_index (slice_set cells place word) q
after_set words cells address place word k q shows there back within_words within_cells =
    elim (cases_eq k address) [
      | inl same ↦ rw (same, there same) (get_or-set_same words address word 0 within_words ∙ sym (get_or-set_same cells place word 0 within_cells))
      | inr other ↦ get_or-set_other words address k word 0 other ∙ (shows ∙ sym (get_or-set_other cells place q word 0 (λ (same : q ≡ place). other (back same))))
    ]

pub by_address-set : (cells : List ℕ) (address word : ℕ) → address < 4096 → length cells ≡ 4096 → by_address (slice_set cells (place_of address) word) ≡ slice_set (by_address cells) address word
unfolding by_address
by_address-set cells address word within whole = sym (fill_by_all f (slice_set (by_address cells) address word) 4096 0 long each) where
  f : ℕ → ℕ
  f a = slice_index (slice_set cells (place_of address) word) (place_of a)

  long : length (slice_set (by_address cells) address word) ≡ 4096
  long = length-set (by_address cells) address word ∙ length-by_address cells

  each : (k : ℕ) → k < 4096 → slice_index (slice_set (by_address cells) address word) k ≡ f k
  each k below =
      let in_words : address < length (by_address cells) = rw (length-by_address cells) within in
      let in_cells : place_of address < length cells = rw whole (place_of-within address within) in
      after_set (by_address cells) cells address (place_of address) word k (place_of k)
      (slice_index-by_address cells k below) (ap place_of) (place_of-one k address below within) in_words in_cells

tabulated-blank : (f : ℕ → ℕ) (n : ℕ) → ((k : ℕ) → k < n → f k ≡ 0) → map f (range_with_len 0 n) ≡ replicate n 0
tabulated-blank f n blank =
    sym (fill_by_all f (replicate n 0) n 0 (length-replicate n 0) (λ (k : ℕ) (below : k < n). get_or-replicate n k 0 0 below ∙ sym (blank k below)))

pub by_address-blank : by_address blank_words ≡ blank_words
unfolding by_address blank_words
by_address-blank =
    tabulated-blank (λ address. slice_index blank_words (place_of address)) 4096
    (λ (k : ℕ) (below : k < 4096). get_or-replicate 4096 (place_of k) 0 0 (place_of-within k below))

-- the word of a track at the place of a sector
pub cell_on_track : (cells : List ℕ) (track sector : ℕ) → track < 64 → sector < 64
    → slice_index (take (64 * track + 64 - 64 * track) (drop (64 * track) cells)) (position_of sector) ≡ slice_index (by_address cells) (64 * track + sector)
cell_on_track cells track sector on_drum on_track =
    let front : position_of sector < 64 * track + 64 - 64 * track = omega arith in
    let address : 64 * track + sector < 4096 = omega arith in
    let place : 64 * track + position_of sector ≡ place_of (64 * track + sector) = omega arith in
    get_or-take (64 * track + 64 - 64 * track) (drop (64 * track) cells) (position_of sector) 0 front
    ∙ (get_or-drop (64 * track) cells (position_of sector) 0
    ∙ (ap (slice_index cells) place ∙ sym (slice_index-by_address cells (64 * track + sector) address)))

pub ruleset cells_by_address = (length-by_address, slice_index-by_address, by_address-set)

-- Words put on the drum one after another, and the panel after them.
use Rattle.std.proofs.Common.{◌≡◌, ℕ, zero, suc, ◌+◌, ◌<◌, ◌≤◌, refl, sym, ap, ◌∙◌, arith, List, [], ◌∷◌, ◌++◌, length, slice_index, slice_set}
use Rattle.std.proofs.lemmas.List.{get_or-set_other, get_or-set_same, length-set}
use Rattle.lgp_keyin.specs.Keyed.{panel_after_store, panel_after_words, words_from}
use Rattle.lgp_table.specs.declared.panel.Panel.{Panel}

-- the base of what comes after a word
abbrev next_base : (base more : ℕ) → base + 1 + more ≡ base + suc more
next_base base more = omega arith

-- a store by hand leaves nothing of the one before
over : (panel : Panel) (first word base last : ℕ) → panel_after_store (panel_after_store panel first word) base last ≡ panel_after_store panel base last
over panel first word base last = refl

last_shows_over : (panel : Panel) (first word : ℕ) (base : ℕ) (words : List ℕ) (last : ℕ)
    → panel_after_words (panel_after_store panel first word) base (words ++ last ∷ []) ≡ panel_after_words panel base (words ++ last ∷ [])
last_shows_over panel first word base [] last = refl
last_shows_over panel first word base (next ∷ words) last = refl

pub last_shows : (panel : Panel) (base : ℕ) (words : List ℕ) (last : ℕ) → panel_after_words panel base (words ++ last ∷ []) ≡ panel_after_store panel (base + length words) last
last_shows panel base [] last = ap (λ n. panel_after_store panel n last) (let e : base ≡ base + 0 = omega arith in e)
last_shows panel base (word ∷ words) last =
    grind (arith, last_shows_over, last_shows panel (base + 1) words last)

-- a place before the words is as it was, and one after them too
pub before_words : (words drum : List ℕ) (base place : ℕ) → place < base → slice_index (words_from drum base words) place ≡ slice_index drum place
before_words [] drum base place before = refl
before_words (word ∷ words) drum base place before =
    before_words words (slice_set drum base word) (base + 1) place (omega (arith, before))
    ∙ get_or-set_other drum base place word 0 (omega (arith, before))

pub after_words : (words drum : List ℕ) (base place : ℕ) → base + length words ≤ place → slice_index (words_from drum base words) place ≡ slice_index drum place
after_words [] drum base place after = refl
after_words (word ∷ words) drum base place after =
    after_words words (slice_set drum base word) (base + 1) place (omega (arith, after))
    ∙ get_or-set_other drum base place word 0 (omega (arith, after))

-- the words lie where they were put
pub words_lie : (words drum : List ℕ) (base place : ℕ) → base + length words ≤ length drum → place < length words
    → slice_index (words_from drum base words) (base + place) ≡ slice_index words place
words_lie [] drum base place fits less = absurd (let wrong : ⊥ = omega (arith, less) in wrong)
words_lie (word ∷ words) drum base zero fits less =
    ap (λ n. slice_index (words_from (slice_set drum base word) (base + 1) words) n) (let e : base + 0 ≡ base = omega arith in e)
    ∙ (before_words words (slice_set drum base word) (base + 1) base (omega arith)
    ∙ get_or-set_same drum base word 0 (omega (arith, fits)))
words_lie (word ∷ words) drum base (suc place) fits less =
    let long : length (slice_set drum base word) ≡ length drum = length-set drum base word in
    ap (λ n. slice_index (words_from (slice_set drum base word) (base + 1) words) n) (sym (next_base base place))
    ∙ words_lie words (slice_set drum base word) (base + 1) place (omega (arith, fits, long)) (omega (arith, less))

pub ruleset placed = (last_shows, before_words, after_words, words_lie)

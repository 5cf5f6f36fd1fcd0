-- How far key-in has come.
use Rattle.std.proofs.Common.{◌≡◌, ℕ, ◌+◌, ◌%◌, ◌<◌, ◌≤◌, false, refl, sym, ap, ◌∙◌, arith, List, [], ◌∷◌, ◌++◌, drop, length, slice_index, take, IsTrue, length-take, slice_index_or}
use Rattle.std.proofs.lemmas.List.{get_or_default, take-append-drop, take_more}
use Rattle.lgp_word.specs.Address.{address_after}
use Rattle.lgp_table.specs.State.{State}
use Rattle.lgp_table.specs.Activity.{cost, next}
use Rattle.lgp_table.specs.Interleaving.{Configuration, after_press, at_boundary, is_boundary}
use Rattle.lgp_table.specs.declared.action.Action.TheVariants as actions
use Rattle.lgp_table.specs.declared.panel.Status.TheVariants.{Executing}
use Rattle.lgp_word.specs.Word.{IsWord}
use Rattle.lgp_machine.specs.Answers.{clock_end}
use Rattle.lgp_keyin.specs.KeyIn.{about_to_store, keyed, store_order, with_four_bit_input, words_keyed}
use Rattle.lgp_keyin.specs.Keyed.{PassesClockEnd, before_store}
use Rattle.lgp_keyin.proofs.ByHand.{shows_store}

-- a given number of words are keyed in
pub record IsKeyedSo (now : Configuration) (s : State) (base : ℕ) (words : List ℕ) (done address : ℕ) : Type 0 where
  pub at : now ≡ at_boundary (keyed s base (take done words))
  pub up : now.state.core.panel.switches.six_bit ≡ false
  pub place : address ≡ (base + done) % 4096
  pub clock : 0 < done → now.state.clock ≤ clock_end

-- words in two parts
keyed_parts : (s : State) (base : ℕ) (first others : List ℕ) → words_keyed s base (first ++ others) ≡ words_keyed (words_keyed s base first) (base + length first) others
unfolding words_keyed
keyed_parts s base [] others = ap (λ n. words_keyed s n others) (let e : base ≡ base + 0 = omega arith in e)
keyed_parts s base (word ∷ first) others =
    grind (arith, others, keyed_parts (next (about_to_store s base word)) (base + 1) first others)

keyed_one : (s : State) (base word : ℕ) → words_keyed s base (word ∷ []) ≡ next (about_to_store s base word)
unfolding words_keyed
keyed_one s base word = refl

clock_grows : (s : State) (base : ℕ) (words : List ℕ) → s.clock ≤ (words_keyed s base words).clock
unfolding words_keyed
clock_grows s base [] = omega arith
clock_grows s base (word ∷ words) =
    let later = clock_grows (next (about_to_store s base word)) (base + 1) words in
    omega (arith, later)

-- one word more
keyed_more : (s : State) (base : ℕ) (words : List ℕ) (done : ℕ) → done < length words
    → keyed s base (take (done + 1) words) ≡ next (before_store s base words done)
keyed_more s base words done less =
    let t = with_four_bit_input s in
    let taken : length (take done words) ≡ done = grind (arith, length-take) in
    ap (keyed s base) (take_more _ _ 0 less)
    ∙ (keyed_parts t _ _ _
    ∙ (keyed_one _ _ _
    ∙ ap (λ n. next (about_to_store (keyed s base (take done words)) (base + n) (slice_index words done))) taken))

pub none_keyed : (old now : Configuration) (base : ℕ) (words : List ℕ) → IsTrue (is_boundary old) → now ≡ after_press old (actions.SixBit false) → base < 4096
    → IsKeyedSo now old.state base words 0 base
unfolding words_keyed
none_keyed old now base words boundary pressed within =
    grind arith

-- the place of the next word
pub place_is : (now : Configuration) (s : State) (base : ℕ) (words : List ℕ) (done address : ℕ) → IsKeyedSo now s base words done address
    → done < length words → base + length words ≤ 4096 → address ≡ base + done
place_is now s base words done address so less fits = omega arith

about_to_is : (now : Configuration) (s : State) (base : ℕ) (words : List ℕ) (done address : ℕ) → IsKeyedSo now s base words done address
    → done < length words → base + length words ≤ 4096
    → about_to_store now.state address (slice_index words done) ≡ before_store s base words done
about_to_is now s base words done address so less fits =
    grind (arith, less)

pub one_more_keyed : (now then : Configuration) (s : State) (base : ℕ) (words : List ℕ) (done address : ℕ) → IsKeyedSo now s base words done address
    → done < length words → base + length words ≤ 4096
    → then ≡ at_boundary (next (about_to_store now.state address (slice_index words done)))
    → then.state.core.panel.switches.six_bit ≡ false → then.state.clock ≤ clock_end
    → IsKeyedSo then s base words (done + 1) (address_after address)
one_more_keyed now then s base words done address so less fits stored up clock = record {
  at = stored ∙ ap at_boundary (ap next (about_to_is now s base words done address so less fits) ∙ sym (keyed_more s base words done less));
  up = up;
  place = omega arith;
  clock = λ some. clock;
}

-- a store that would pass the clock's end: the clock after all words would be past it
pub passes : (now then : Configuration) (s : State) (base : ℕ) (words : List ℕ) (done address : ℕ) → IsKeyedSo now s base words done address
    → done < length words → base + length words ≤ 4096
    → then ≡ at_boundary (about_to_store now.state address (slice_index words done))
    → clock_end < then.state.clock + cost then.state
    → PassesClockEnd s base words
passes now then s base words done address so less fits stands past =
    let about = about_to_is now s base words done address so less fits in
    let t = with_four_bit_input s in
    let first = take (done + 1) words in
    let others = drop (done + 1) words in
    let clock : then.state.clock + cost then.state ≡ (next (before_store s base words done)).clock =
    ap (λ (c : Configuration). (next c.state).clock) stands ∙ ap (λ (t : State). (next t).clock) about in
    let after : (keyed s base first).clock ≡ (next (before_store s base words done)).clock = ap (λ (t : State). t.clock) (keyed_more s base words done less) in
    let parts : (keyed s base words).clock ≡ (words_keyed (keyed s base first) (base + length first) others).clock =
    ap (λ (t : State). t.clock) (ap (keyed s base) (sym (take-append-drop (done + 1) words)) ∙ keyed_parts t _ _ _) in
    let grows = clock_grows (keyed s base first) (base + length first) others in
    (omega (arith, less), omega (arith, past, clock, after, parts, grows))

-- an element of a list, whatever stands in for one that is not there
pub item_at : (words : List ℕ) (place word : ℕ) → place < length words → word ≡ slice_index_or words place word → word ≡ slice_index words place
item_at words place word less is = is ∙ get_or_default words place word 0 less

-- about to store the next word, the machine shows it
pub shows_next : (now then : Configuration) (s : State) (base : ℕ) (words : List ℕ) (done address word : ℕ) → IsKeyedSo now s base words done address
    → done < length words → base + length words ≤ 4096 → then ≡ at_boundary (about_to_store now.state address word) → IsWord word
    → (then.state.core.panel.status ≡ Executing) × (then.state.core.panel.register ≡ store_order (base + done))
shows_next now then s base words done address word so less fits stands is =
    grind (arith, less, shows_store)

-- The uses of words by one order more.
use Rattle.std.proofs.Common.{◌≡◌, ◌≢◌, ◌∙◌, ℕ, zero, suc, ◌+◌, ◌<◌, ◌==◌, ◌&&◌, ◌||◌, ◌⊎◌, inl, inr, Bool, true, false, not, Option, Some, None, List, option_map, IfSome, cond, ap, refl, sym, subst, arith}
use Rattle.std.specs.Option.{option_map_or}
use Rattle.std.proofs.lemmas.Bool.{and_from, and_parts, eqb-true, eqb-false, eq-eqb, not-false}
use Rattle.std.proofs.lemmas.List.{get_or-replicate}
use Rattle.lgp_word.specs.declared.order.Op.{Op}
use Rattle.lgp_word.specs.declared.order.Op.TheVariants.{Z, B, Y, R, I, D, N, M, P, E, U, T, H, C, A, S}
use Rattle.lgp_word.specs.Order.{address_at, op_at}
use Rattle.lgp_table.specs.After.{after}
use Rattle.lgp_table.specs.State.{Core, State, word_at}
use Rattle.lgp_table.specs.Activity.{BegunOrder, begun_in, next, place_in, seeks, stores}
use Rattle.lgp_table.specs.declared.panel.Status.{Status}
use Rattle.lgp_table.specs.declared.panel.Status.TheVariants.{Halted, Going, Executing, Waiting, Reading}
use Rattle.lgp_history.specs.Hits.{changes}
use Rattle.lgp_trace.specs.Account.{found_of, operand_in, order_of, place_of, sought_word, stored_address}
use Rattle.lgp_optimum.specs.Optimum.{is_changed, is_named, is_named_by_other, is_other_order, is_performed, names, some_order, stands_at}
use Rattle.lgp_optimum.specs.OptimumKept.{AreUsesOf, no_use, use_at, use_of}
use Rattle.lgp_optimum.specs.UsesInside.{changes_by, is_other_with, leaves_other, no_uses, use_with_operand, use_with_place, word_names}
use Rattle.lgp_trace.specs.declared.account.Found.{Found}
use Rattle.lgp_trace.specs.declared.account.Operand.{Operand}
use Rattle.lgp_optimum.specs.declared.uses.Use.{Use}
use Rattle.lgp_optimum.proofs.MovedClocks.{first_false, named_by, second_false}
use Rattle.lgp_trace.proofs.WordLaws.{other_words}

-- ---- tests

and_true : (b : Bool) → (b && true) ≡ b
and_true true = refl
and_true false = refl

and_false : (b : Bool) → (b && false) ≡ false
and_false true = refl
and_false false = refl

or_false : (b : Bool) → (b || false) ≡ b
or_false true = refl
or_false false = refl

or_of_and : (a b c : Bool) → (a && (b || c)) ≡ ((a && b) || (a && c))
or_of_and true b c = refl
or_of_and false b c = refl

and_of_or : (a b c : Bool) → ((a && c) || (b && c)) ≡ ((a || b) && c)
and_of_or true b true = refl
and_of_or true b false = and_false b
and_of_or false b c = refl

-- what implies a is nothing beside a
absorbed : (a b c : Bool) → (b ≡ true → a ≡ true) → c ≡ false → (a || b) ≡ (a || c)
absorbed true b c implies none = refl
absorbed false true c implies none = sym (implies refl) ∙ sym none
absorbed false false c implies none = sym none

-- ---- tests of the orders of a run

-- one order more
more_orders : (test : State → Bool) (s : State) (count : ℕ) → some_order test s (suc count) ≡ (some_order test s count || test (after s count))
unfolding some_order
more_orders test s count = refl

or-both : (a b c d : Bool) → ((a || b) || (c || d)) ≡ ((a || c) || (b || d))
or-both true b c d = refl
or-both false true c d = elim c as (λ c. true ≡ (c || true)) [ true ↦ refl | false ↦ refl ]
or-both false false c d = refl

-- two tests one after the other
either_order : (one other : State → Bool) (s : State) (count : ℕ) → some_order (λ now. one now || other now) s count ≡ (some_order one s count || some_order other s count)
unfolding some_order
either_order one other s zero = refl
either_order one other s (suc count) =
    ap (λ (b : Bool). b || (one (after s count) || other (after s count))) (either_order one other s count)
    ∙ or-both (some_order one s count) (some_order other s count) (one (after s count)) (other (after s count))

same_orders : (one other : State → Bool) (s : State) (count : ℕ) → ((now : State) → one now ≡ other now) → some_order one s count ≡ some_order other s count
unfolding some_order
same_orders one other s zero same = refl
same_orders one other s (suc count) same =
    ap (λ (b : Bool). b || one (after s count)) (same_orders one other s count same)
    ∙ ap (λ (b : Bool). some_order other s count || b) (same (after s count))

no_order : (test : State → Bool) (s : State) (count : ℕ) → ((now : State) → test now ≡ false) → some_order test s count ≡ false
unfolding some_order
no_order test s zero none = refl
no_order test s (suc count) none =
    ap (λ (b : Bool). b || test (after s count)) (no_order test s count none) ∙ none (after s count)

or_true : (a b : Bool) → b ≡ true → (a || b) ≡ true
or_true true b e = refl
or_true false b e = e

or_either : (a b : Bool) → (a || b) ≡ true → (a ≡ true) ⊎ (b ≡ true)
or_either true b e = inl refl
or_either false b e = inr e

-- where each order that passes one test passes another
weaker_orders : (one other : State → Bool) (s : State) (count : ℕ) → ((now : State) → one now ≡ true → other now ≡ true) → some_order one s count ≡ true → some_order other s count ≡ true
unfolding some_order
weaker_orders one other s zero weaker some = some
weaker_orders one other s (suc count) weaker some =
    elim (or_either (some_order one s count) (one (after s count)) some) [
      | inl before ↦ ap (λ (b : Bool). b || other (after s count)) (weaker_orders one other s count weaker before)
      | inr here ↦ or_true (some_order other s count) (other (after s count)) (weaker (after s count) here)
    ]

-- ---- what an order names and changes

names_operand : (found : Option Found) (after : Core) (address : ℕ)
    → option_map_or (λ (f : Found). f.address == address) found false ≡ option_map_or (λ (o : Operand). o.address == address) (option_map (operand_in after) found) false
names_operand None after address = refl
names_operand (Some found) after address = refl

stores_seek : (op : Op) → stores op ≡ true → seeks op ≡ true
stores_seek op = elim op as (λ op. stores op ≡ true → seeks op ≡ true) [ Z ↦ λ e. cc | B ↦ λ e. refl | Y ↦ λ e. refl | R ↦ λ e. refl | I ↦ λ e. cc | D ↦ λ e. refl | N ↦ λ e. refl | M ↦ λ e. refl | P ↦ λ e. cc | E ↦ λ e. refl | U ↦ λ e. cc | T ↦ λ e. cc | H ↦ λ e. refl | C ↦ λ e. refl | A ↦ λ e. refl | S ↦ λ e. refl ]

-- the word at an address, as it is found
abbrev word_found : Core → ℕ → Found
word_found core address = record { address = address; word = word_at core address }

-- an order that stores at an address has found the word there
stored_found : (order : Option ℕ) (core : Core) (address : ℕ) → stored_address order ≡ Some address → sought_word order core ≡ Some (word_found core address)
stored_found None core address = λ e. cc
stored_found (Some order) core address =
    let m = address_at order in
    elim (stores (op_at order)) as (λ b. stores (op_at order) ≡ b → cond b (Some m) None ≡ Some address → cond (seeks (op_at order)) (Some (word_found core m)) None ≡ Some (word_found core address)) [
      | true ↦ λ (is : stores (op_at order) ≡ true) (e : Some m ≡ Some address).
          let same : m ≡ address = cc in
          ap (λ (b : Bool). cond b (Some (word_found core m)) None) (stores_seek (op_at order) is) ∙ ap (λ (n : ℕ). Some (word_found core n)) same
      | false ↦ λ is e. cc
    ] refl

-- the word found at an address other than the one that is asked for, or none
abbrev is_found : Option Found → ℕ → Bool
is_found found address = option_map_or (λ (f : Found). address == f.address) found false

unfound_stays : (s : State) (address : ℕ) → is_found (found_of s) address ≡ false → stored_address (order_of s) ≢ Some address
unfound_stays s address none stored =
    let found : found_of s ≡ Some (word_found s.core address) = stored_found (order_of s) s.core address stored in
    let there : is_found (Some (word_found s.core address)) address ≡ false = subst (λ (f : Option Found). is_found f address ≡ false) found none in
    eqb-false address address there refl

not_changed : (s : State) (address : ℕ) → is_found (found_of s) address ≡ false → changes s address ≡ false
not_changed s address none =
    let stays : word_at (next s).core address ≡ word_at s.core address = other_words s address (unfound_stays s address none) in
    ap not (eq-eqb (word_at s.core address) (word_at (next s).core address) (sym stays))

found_word : (order : Option ℕ) (core : Core) (found : Found) → sought_word order core ≡ Some found → found.word ≡ word_at core found.address
found_word None core found = λ e. cc
found_word (Some order) core found =
    let m = address_at order in
    elim (seeks (op_at order)) as (λ b. cond b (Some (record { address = m; word = word_at core m })) None ≡ Some found → found.word ≡ word_at core found.address)
    [ true ↦ λ e. cc | false ↦ λ e. cc ]

-- what an order changes is what it leaves other at its operand
changes_operand : (s : State) (address : ℕ) → changes s address ≡ changes_by (option_map (operand_in (next s).core) (found_of s)) address
changes_operand s address = elim (found_of s) as (λ f. found_of s ≡ f → changes s address ≡ changes_by (option_map (operand_in (next s).core) f) address) [
  | None ↦ λ (is : found_of s ≡ None). not_changed s address (ap (λ (f : Option Found). is_found f address) is)
  | Some found ↦ λ (is : found_of s ≡ Some found). changes_there s address found is
] refl where
  changes_there : (s : State) (address : ℕ) (found : Found) → found_of s ≡ Some found → changes s address ≡ (not (found.word == word_at (next s).core found.address) && (address == found.address))
  changes_there s address found is = elim (address == found.address) as (λ b. (address == found.address) ≡ b → changes s address ≡ (not (found.word == word_at (next s).core found.address) && b)) [
    | true ↦ λ (same : (address == found.address) ≡ true).
        let there : address ≡ found.address = eqb-true address found.address same in
        let word : found.word ≡ word_at s.core found.address = found_word (order_of s) s.core found is in
        rw there (rw word (sym (and_true _)))
    | false ↦ λ (other : (address == found.address) ≡ false).
        not_changed s address (ap (λ (f : Option Found). is_found f address) is ∙ other) ∙ sym (and_false _)
  ] refl

-- ---- words that a changed order named

-- an order on the drum is the word there
drum_names : (status : Status) (core : Core) (place address : ℕ) → place_in (begun_in status core) ≡ Some place
    → option_map_or (λ (f : Found). f.address == address) (sought_word (option_map (λ (o : BegunOrder). o.word) (begun_in status core)) core) false ≡ word_names (word_at core place) address
drum_names (Halted cause) core place address e = cc
drum_names Going core place address e =
    let here : core.panel.counter ≡ place = cc in
    rw (← here) (named_by (op_at (word_at core core.panel.counter)) (address_at (word_at core core.panel.counter)) address _ refl)
drum_names Executing core place address e = cc
drum_names Waiting core place address e = cc
drum_names Reading core place address e = cc

placed_names : (now : State) (place address : ℕ) → place_of now ≡ Some place → names address now ≡ word_names (word_at now.core place) address
placed_names now place address e = drum_names now.core.panel.status now.core place address e

-- a word that no order changed is as it was
unchanged_word : (s : State) (count address : ℕ) → is_changed s count address ≡ false → word_at (after s count).core address ≡ word_at s.core address
unfolding some_order after
unchanged_word s zero address e = refl
unchanged_word s (suc count) address e =
    let before : is_changed s count address ≡ false = first_false _ _ e in
    let here : not (word_at (after s count).core address == word_at (next (after s count)).core address) ≡ false = second_false (is_changed s count address) _ e in
    let same : word_at (after s count).core address ≡ word_at (next (after s count)).core address = eqb-true _ _ (not-false _ here) in
    sym same ∙ unchanged_word s count address before

-- an order at an address names what the word there names
stands_names : (now : State) (at address : ℕ) (word : ℕ) → word_at now.core at ≡ word → (names address now && stands_at at now) ≡ (stands_at at now && word_names word address)
stands_names now at address word is = elim (place_of now) as (λ p. place_of now ≡ p → (names address now && option_map_or (λ place. place == at) p false) ≡ (option_map_or (λ place. place == at) p false && word_names word address)) [
  | None ↦ λ e. and_false _
  | Some place ↦ λ (e : place_of now ≡ Some place). stands_so place e
] refl where
  stands_so : (place : ℕ) → place_of now ≡ Some place → (names address now && (place == at)) ≡ ((place == at) && word_names word address)
  stands_so place e = elim (place == at) as (λ b. (place == at) ≡ b → (names address now && b) ≡ (b && word_names word address)) [
    | true ↦ λ (same : (place == at) ≡ true).
        let here : place ≡ at = eqb-true place at same in
        and_true _ ∙ placed_names now place address e ∙ ap (λ (n : ℕ). word_names (word_at now.core n) address) here ∙ ap (λ (w : ℕ). word_names w address) is
    | false ↦ λ other. and_false _
  ] refl

-- of the orders at an address that none has changed
first_names : (s : State) (count at address : ℕ) → is_changed s count at ≡ false
    → some_order (λ now. names address now && stands_at at now) s count ≡ (is_performed s count at && word_names (word_at s.core at) address)
unfolding some_order
first_names s zero at address e = refl
first_names s (suc count) at address e =
    let before : is_changed s count at ≡ false = first_false _ _ e in
    let word : word_at (after s count).core at ≡ word_at s.core at = unchanged_word s count at before in
    ap (λ (b : Bool). b || (names address (after s count) && stands_at at (after s count))) (first_names s count at address before)
    ∙ ap (λ (b : Bool). (is_performed s count at && word_names (word_at s.core at) address) || b) (stands_names (after s count) at address (word_at s.core at) word)
    ∙ and_of_or (is_performed s count at) (stands_at at (after s count)) (word_names (word_at s.core at) address)

-- whether an order left another word at a place
abbrev changes_place : Option Operand → Option ℕ → Bool
changes_place operand None = false
changes_place operand (Some place) = changes_by operand place

other_more : (s : State) (count : ℕ) (operand : Option Operand) → operand ≡ option_map (operand_in (next (after s count)).core) (found_of (after s count)) → (place : Option ℕ)
    → is_other_order s (suc count) place ≡ (is_other_order s count place || changes_place operand place)
other_more s count operand is None = refl
other_more s count operand is (Some place) =
    more_orders _ s count ∙ ap (λ (b : Bool). is_changed s count place || b) (changes_operand (after s count) place ∙ ap (λ (o : Option Operand). changes_by o place) (sym is))

by_other_more : (s : State) (count : ℕ) (operand : Option Operand) → operand ≡ option_map (operand_in (next (after s count)).core) (found_of (after s count)) → (address : ℕ)
    → some_order (λ now. names address now && is_other_order s (suc count) (place_of now)) s count
    ≡ (is_named_by_other s count address || some_order (λ now. names address now && changes_place operand (place_of now)) s count)
by_other_more s count operand is address =
    same_orders _ _ s count (λ (now : State). ap (λ (b : Bool). names address now && b) (other_more s count operand is (place_of now)) ∙ or_of_and (names address now) (is_other_order s count (place_of now)) (changes_place operand (place_of now)))
    ∙ either_order (λ now. names address now && is_other_order s count (place_of now)) (λ now. names address now && changes_place operand (place_of now)) s count

stands_changes : (operand : Operand) (place : Option ℕ) → leaves_other operand ≡ true → changes_place (Some operand) place ≡ option_map_or (λ (p : ℕ). p == operand.address) place false
stands_changes operand None leaves = refl
stands_changes operand (Some place) leaves = ap (λ (b : Bool). b && (place == operand.address)) leaves

leaves_none : (operand : Operand) (place : Option ℕ) → leaves_other operand ≡ false → changes_place (Some operand) place ≡ false
leaves_none operand None leaves = refl
leaves_none operand (Some place) leaves = ap (λ (b : Bool). b && (place == operand.address)) leaves

stands_other : (s : State) (count at : ℕ) (place : Option ℕ) → is_changed s count at ≡ true → option_map_or (λ (p : ℕ). p == at) place false ≡ true → is_other_order s count place ≡ true
stands_other s count at None changed stands = refl
stands_other s count at (Some place) changed stands = ap (is_changed s count) (eqb-true place at stands) ∙ changed

-- what is new: an order has left another word where an order was performed that named this one
newly_named : (s : State) (count : ℕ) (operand : Operand) → operand.found ≡ word_at (after s count).core operand.address → (address : ℕ)
    → (is_named_by_other s count address || some_order (λ now. names address now && changes_place (Some operand) (place_of now)) s count)
    ≡ (is_named_by_other s count address || (leaves_other operand && (is_performed s count operand.address && not (is_changed s count operand.address) && word_names operand.found address)))
newly_named s count operand found address = elim (leaves_other operand) as (λ b. leaves_other operand ≡ b
    → (is_named_by_other s count address || some_order (λ now. names address now && changes_place (Some operand) (place_of now)) s count)
    ≡ (is_named_by_other s count address || (b && (is_performed s count operand.address && not (is_changed s count operand.address) && word_names operand.found address))))
    [ true ↦ λ leaves. leaving leaves | false ↦ λ leaves. ap (λ (b : Bool). is_named_by_other s count address || b) (no_order _ s count (λ (now : State). ap (λ (b : Bool). names address now && b) (leaves_none operand (place_of now) leaves) ∙ and_false (names address now))) ] refl where
      leaving : leaves_other operand ≡ true
          → (is_named_by_other s count address || some_order (λ now. names address now && changes_place (Some operand) (place_of now)) s count)
          ≡ (is_named_by_other s count address || (is_performed s count operand.address && not (is_changed s count operand.address) && word_names operand.found address))
      leaving leaves =
          ap (λ (b : Bool). is_named_by_other s count address || b) (same_orders _ (λ now. names address now && stands_at operand.address now) s count (λ (now : State). ap (λ (b : Bool). names address now && b) (stands_changes operand (place_of now) leaves)))
          ∙ elim (is_changed s count operand.address) as (λ b. is_changed s count operand.address ≡ b
          → (is_named_by_other s count address || some_order (λ now. names address now && stands_at operand.address now) s count)
          ≡ (is_named_by_other s count address || (is_performed s count operand.address && not b && word_names operand.found address)))
          [ true ↦ λ changed. old changed | false ↦ λ unchanged. new unchanged ] refl where
            old : is_changed s count operand.address ≡ true
                → (is_named_by_other s count address || some_order (λ now. names address now && stands_at operand.address now) s count)
                ≡ (is_named_by_other s count address || (is_performed s count operand.address && false && word_names operand.found address))
            old changed =
                absorbed (is_named_by_other s count address) _ _
                (weaker_orders (λ now. names address now && stands_at operand.address now) (λ now. names address now && is_other_order s count (place_of now)) s count
                (λ (now : State) (both : (names address now && stands_at operand.address now) ≡ true).
                let parts = and_parts (names address now) (stands_at operand.address now) both in
                and_from (names address now) (is_other_order s count (place_of now)) parts.0 (stands_other s count operand.address (place_of now) changed parts.1)))
                (ap (λ (b : Bool). b && word_names operand.found address) (and_false (is_performed s count operand.address)))

            new : is_changed s count operand.address ≡ false
                → (is_named_by_other s count address || some_order (λ now. names address now && stands_at operand.address now) s count)
                ≡ (is_named_by_other s count address || (is_performed s count operand.address && true && word_names operand.found address))
            new unchanged =
                ap (λ (b : Bool). is_named_by_other s count address || b)
                (first_names s count operand.address address unchanged
                ∙ ap (λ (w : ℕ). is_performed s count operand.address && word_names w address) (sym (found ∙ unchanged_word s count operand.address unchanged))
                ∙ ap (λ (b : Bool). b && word_names operand.found address) (sym (and_true (is_performed s count operand.address))))

-- ---- one order more

abbrev operand_named : Option Operand → ℕ → Bool
operand_named operand address = option_map_or (λ (o : Operand). o.address == address) operand false

-- the word that became one that a changed order named, and whether the order is another one than at the start
abbrev newly : List Use → Option Operand → ℕ → Bool
newly uses None other = false
newly uses (Some operand) other =
    let before = use_at uses operand.address in
    leaves_other operand && (before.performed && not before.changed && word_names operand.found other)

abbrev other_now : List Use → Option Operand → Option ℕ → Bool
other_now uses None place = false
other_now uses (Some operand) place = is_other_with uses operand place

abbrev place_named : Option ℕ → ℕ → Bool
place_named place address = option_map_or (λ (p : ℕ). p == address) place false

operand_named_is : (uses : List Use) (place : Option ℕ) (operand : Option Operand) (other : ℕ)
    → (use_with_operand uses place operand other).named ≡ ((use_at uses other).named || operand_named operand other)
operand_named_is uses place None other = sym (or_false _)
operand_named_is uses place (Some operand) other = refl

operand_performed_is : (uses : List Use) (place : Option ℕ) (operand : Option Operand) (other : ℕ)
    → (use_with_operand uses place operand other).performed ≡ (use_at uses other).performed
operand_performed_is uses place None other = refl
operand_performed_is uses place (Some operand) other = refl

operand_changed_is : (uses : List Use) (place : Option ℕ) (operand : Option Operand) (other : ℕ)
    → (use_with_operand uses place operand other).changed ≡ ((use_at uses other).changed || changes_by operand other)
operand_changed_is uses place None other = sym (or_false _)
operand_changed_is uses place (Some operand) other = refl

operand_by_other_is : (uses : List Use) (place : Option ℕ) (operand : Option Operand) (other : ℕ)
    → (use_with_operand uses place operand other).by_other ≡ (((use_at uses other).by_other || newly uses operand other) || (operand_named operand other && other_now uses operand place))
operand_by_other_is uses place None other = sym (or_false _ ∙ or_false _)
operand_by_other_is uses place (Some operand) other = refl

place_is : (uses : List Use) (place : Option ℕ) (other : ℕ)
    → use_with_place uses place other ≡ record (use_at uses other) { performed = (use_at uses other).performed || place_named place other }
place_is uses None other = ap (λ (b : Bool). record (use_at uses other) { performed = b }) (sym (or_false _))
place_is uses (Some place) other = refl

use_is : (n p c b n' p' c' b' : Bool) → n ≡ n' → p ≡ p' → c ≡ c' → b ≡ b'
    → (let one : Use = record { named = n; performed = p; changed = c; by_other = b } in
    let other : Use = record { named = n'; performed = p'; changed = c'; by_other = b' } in one ≡ other)
use_is n p c b n' p' c' b' e f g h = rw (e, f, g, h) refl

operand_found : (order : Option ℕ) (core after : Core) (operand : Operand) → Some operand ≡ option_map (operand_in after) (sought_word order core) → operand.found ≡ word_at core operand.address
operand_found None core later operand = λ e. cc
operand_found (Some order) core later operand =
    let m = address_at order in
    elim (seeks (op_at order)) as (λ b. Some operand ≡ option_map (operand_in later) (cond b (Some (record { address = m; word = word_at core m })) None) → operand.found ≡ word_at core operand.address)
    [ true ↦ λ e. cc | false ↦ λ e. cc ]

no_change : (place : Option ℕ) → changes_place None place ≡ false
no_change None = refl
no_change (Some place) = refl

-- what was newly named, by the uses so far
newly_is : (s : State) (count : ℕ) (old : List Use) (operand : Option Operand) → AreUsesOf old s count
    → operand ≡ option_map (operand_in (next (after s count)).core) (found_of (after s count)) → IfSome operand (λ o. o.address < 4096) → (address : ℕ)
    → (is_named_by_other s count address || newly old operand address)
    ≡ (is_named_by_other s count address || some_order (λ now. names address now && changes_place operand (place_of now)) s count)
newly_is s count old None uses waited within address =
    ap (λ (b : Bool). is_named_by_other s count address || b)
    (sym (no_order _ s count (λ (now : State). ap (λ (b : Bool). names address now && b) (no_change (place_of now)) ∙ and_false (names address now))))
newly_is s count old (Some operand) uses waited within address =
    ap (λ (u : Use). is_named_by_other s count address || (leaves_other operand && (u.performed && not u.changed && word_names operand.found address))) (uses.each operand.address within)
    ∙ sym (newly_named s count operand (operand_found (order_of (after s count)) (after s count).core (next (after s count)).core operand waited) address)

other_now_is : (s : State) (count : ℕ) (old : List Use) (place : Option ℕ) (operand : Option Operand) → AreUsesOf old s count → IfSome place (λ p. p < 4096) → (address : ℕ)
    → (operand_named operand address && other_now old operand place) ≡ (operand_named operand address && (is_other_order s count place || changes_place operand place))
other_now_is s count old place None uses within address = refl
other_now_is s count old None (Some operand) uses within address = refl
other_now_is s count old (Some place) (Some operand) uses within address =
    ap (λ (u : Use). (operand.address == address) && (u.changed || changes_by (Some operand) place)) (uses.each place within)

module _ (s : State) (count : ℕ) (old : List Use) (place : Option ℕ) (operand : Option Operand) (uses : AreUsesOf old s count)
    (stood : place ≡ place_of (after s count)) (waited : operand ≡ option_map (operand_in (next (after s count)).core) (found_of (after s count)))
    (place_within : IfSome place (λ p. p < 4096)) (operand_within : IfSome operand (λ o. o.address < 4096)) where
  names_now : (address : ℕ) → names address (after s count) ≡ operand_named operand address
  names_now address = names_operand (found_of (after s count)) (next (after s count)).core address ∙ ap (λ (o : Option Operand). operand_named o address) (sym waited)

  named_more : (address : ℕ) → is_named s (suc count) address ≡ (is_named s count address || operand_named operand address)
  named_more address = more_orders _ s count ∙ ap (λ (b : Bool). is_named s count address || b) (names_now address)

  performed_more : (address : ℕ) → is_performed s (suc count) address ≡ (is_performed s count address || option_map_or (λ (p : ℕ). p == address) place false)
  performed_more address =
      more_orders _ s count ∙ ap (λ (p : Option ℕ). is_performed s count address || option_map_or (λ (p : ℕ). p == address) p false) (sym stood)

  changed_more : (address : ℕ) → is_changed s (suc count) address ≡ (is_changed s count address || changes_by operand address)
  changed_more address =
      more_orders _ s count ∙ ap (λ (b : Bool). is_changed s count address || b)
      (changes_operand (after s count) address ∙ ap (λ (o : Option Operand). changes_by o address) (sym waited))

  by_other_now : (address : ℕ) → is_named_by_other s (suc count) address
      ≡ ((is_named_by_other s count address || some_order (λ now. names address now && changes_place operand (place_of now)) s count)
      || (operand_named operand address && (is_other_order s count place || changes_place operand place)))
  by_other_now address =
      more_orders _ s count
      ∙ ap (λ (b : Bool). b || (names address (after s count) && is_other_order s (suc count) (place_of (after s count)))) (by_other_more s count operand waited address)
      ∙ ap (λ (b : Bool). (is_named_by_other s count address || some_order (λ now. names address now && changes_place operand (place_of now)) s count) || b)
      (ap (λ (b : Bool). b && is_other_order s (suc count) (place_of (after s count))) (names_now address)
      ∙ ap (λ (p : Option ℕ). operand_named operand address && is_other_order s (suc count) p) (sym stood)
      ∙ ap (λ (b : Bool). operand_named operand address && b) (other_more s count operand waited place))

  new_use : (mid new : List Use) → ((other : ℕ) → use_at mid other ≡ use_with_operand old place operand other)
      → ((other : ℕ) → use_at new other ≡ use_with_place mid place other) → (address : ℕ) → address < 4096 → use_at new address ≡ use_of s (suc count) address
  new_use mid new mids news address below =
      let before : use_at old address ≡ use_of s count address = uses.each address below in
      news address ∙ place_is mid place address
      ∙ ap (λ (u : Use). record u { performed = u.performed || place_named place address }) (mids address)
      ∙ use_is _ _ _ _ _ _ _ _
      (operand_named_is old place operand address ∙ ap (λ (u : Use). u.named || operand_named operand address) before ∙ sym (named_more address))
      (ap (λ (b : Bool). b || place_named place address) (operand_performed_is old place operand address)
      ∙ ap (λ (u : Use). u.performed || place_named place address) before ∙ sym (performed_more address))
      (operand_changed_is old place operand address ∙ ap (λ (u : Use). u.changed || changes_by operand address) before ∙ sym (changed_more address))
      (operand_by_other_is old place operand address
      ∙ ap (λ (u : Use). (u.by_other || newly old operand address) || (operand_named operand address && other_now old operand place)) before
      ∙ ap (λ (b : Bool). b || (operand_named operand address && other_now old operand place)) (newly_is s count old operand uses waited operand_within address)
      ∙ ap (λ (b : Bool). (is_named_by_other s count address || some_order (λ now. names address now && changes_place operand (place_of now)) s count) || b) (other_now_is s count old place operand uses place_within address)
      ∙ sym (by_other_now address))

  pub uses_more : (mid new : List Use) → ((other : ℕ) → use_at mid other ≡ use_with_operand old place operand other)
      → ((other : ℕ) → use_at new other ≡ use_with_place mid place other) → AreUsesOf new s (count + 1)
  uses_more mid new mids news =
      let number : count + 1 ≡ suc count = omega arith in
      rw number (record { each = new_use mid new mids news })

-- none is used at first
pub no_uses_at : (s : State) → AreUsesOf no_uses s 0
unfolding no_uses some_order
no_uses_at s = record { each = λ address below. get_or-replicate 4096 address no_use no_use below }

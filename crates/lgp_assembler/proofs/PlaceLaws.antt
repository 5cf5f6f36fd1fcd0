-- The laws on places and names.
use Rattle.std.proofs.Common.{◌≡◌, ◌≢◌, length, ◌+◌, ◌++◌, ◌||◌, ℕ, Bool, true, false, cond, List, [], ◌∷◌, Option, None, Some, refl, ap, ◌∙◌, arith, ⊎_elim, is_some, unwrap_or, option_to_list}
use Rattle.std.specs.Option.{option_map_or, option_or}
use Rattle.std.specs.Str.{bytes_eq}
use Rattle.std.specs.Map.{lookup}
use Rattle.std.proofs.lemmas.Bool.{cond-true, cond-false, false_from_ne_true}
use Rattle.std.proofs.lemmas.List.{append-nil}
use Rattle.std.proofs.lemmas.List.Elements.{All-head, All-tail}
use Rattle.std.proofs.lemmas.List.Sums.{fold-append}
use Rattle.std.proofs.lemmas.Option.{none-some}
use Rattle.std.proofs.lemmas.Slice.Eq.{bytes_eq-Decides}
use Rattle.lgp_assembler.specs.declared.operations.Operation.{Operation}
use Rattle.lgp_assembler.specs.declared.operations.Operation.TheVariants.{Order, MinusT, Org, Word, Frac, Int, End}
use Rattle.lgp_assembler.specs.Fields.{LineFields}
use Rattle.lgp_assembler.specs.Operations.{makes_word}
use Rattle.lgp_assembler.specs.Places.{org_of, org_address, word_count, next_place, place_of, is_end, has_ended, new_label, names_of}
use Rattle.lgp_assembler.specs.Image.{passed_lines}
use Rattle.lgp_assembler.specs.Laws.{HasNoOrg, word_total, PlacesCountFromOrgs, HasNotLabel, NamesAreFirstPlaces}

-- ---- lines in order, and the nearest first

pub passed-append : (earlier one other : List LineFields) → passed_lines earlier (one ++ other) ≡ passed_lines (passed_lines earlier one) other
passed-append earlier one other = fold-append (λ before line. line ∷ before) earlier one other

-- whether an end line is among some lines does not depend on their order
ended-swapped : (a b c : Bool) → ((a || b) || c) ≡ (b || (a || c))
ended-swapped true true c = refl
ended-swapped true false c = refl
ended-swapped false true c = refl
ended-swapped false false c = refl

or_none : (b : Bool) → b ≡ (b || false)
or_none true = refl
or_none false = refl

has_ended-passed : (earlier lines : List LineFields) → has_ended (passed_lines earlier lines) ≡ (has_ended earlier || has_ended lines)
unfolding has_ended
has_ended-passed earlier [] = or_none (has_ended earlier)
has_ended-passed earlier (line ∷ lines) =
    grind (arith, ended-swapped, has_ended-passed (line ∷ earlier) lines)

pub has_ended-in_order : (lines : List LineFields) → has_ended (passed_lines [] lines) ≡ has_ended lines
unfolding has_ended
has_ended-in_order lines = has_ended-passed [] lines

pub length-passed : (earlier lines : List LineFields) → length (passed_lines earlier lines) ≡ length earlier + length lines
length-passed earlier [] = omega arith
length-passed earlier (line ∷ lines) = length-passed (line ∷ earlier) lines ∙ omega arith

-- ---- places

run : (earlier between : List LineFields) → HasNoOrg between → next_place (passed_lines earlier between) ≡ next_place earlier + word_total between
unfolding next_place
run earlier [] none = omega arith
run earlier (line ∷ lines) none =
    let here : next_place (line ∷ earlier) ≡ next_place earlier + word_count line = ap (λ a. unwrap_or a (next_place earlier) + word_count line) (All-head (λ l. org_of l ≡ None) line lines none) in
    run (line ∷ earlier) lines (All-tail (λ l. org_of l ≡ None) line lines none) ∙ omega arith

no_word : (operation : Option Operation) (first : Option (List ℕ)) (address : ℕ) → org_address operation first ≡ Some address → option_map_or makes_word operation false ≡ false
no_word (Some Org) first address e = refl
no_word (Some (Order op)) first address e = absurd (none-some address e)
no_word (Some MinusT) first address e = absurd (none-some address e)
no_word (Some Word) first address e = absurd (none-some address e)
no_word (Some Frac) first address e = absurd (none-some address e)
no_word (Some Int) first address e = absurd (none-some address e)
no_word (Some End) first address e = absurd (none-some address e)
no_word None first address e = absurd (none-some address e)

after_org : (earlier : List LineFields) (org : LineFields) (address : ℕ) → org_of org ≡ Some address → next_place (org ∷ earlier) ≡ address
unfolding next_place
after_org earlier org address e =
    let none : word_count org ≡ 0 = cond-false (option_map_or makes_word org.operation false) 1 0 (no_word org.operation org.first address e) in
    ap (λ a. unwrap_or a (next_place earlier) + word_count org) e ∙ omega arith

pub places_law : (before : List LineFields) (line : LineFields) → PlacesCountFromOrgs before line
unfolding next_place
places_law before line = record {
  own = λ address e. ap (λ a. unwrap_or a (next_place (passed_lines [] before))) e;
  nearest = λ between org address e none other.
      ap (λ a. unwrap_or a (next_place (passed_lines [] (before ++ org ∷ between)))) other
      ∙ ap next_place (passed-append [] before (org ∷ between))
      ∙ run (org ∷ passed_lines [] before) between none
      ∙ ap (λ p. p + word_total between) (after_org (passed_lines [] before) org address e);
  none = λ none other.
      ap (λ a. unwrap_or a (next_place (passed_lines [] before))) other ∙ run [] before none ∙ omega arith;
}

-- ---- names

pick : (b : Bool) (value : ℕ) (both one other : Option ℕ) → both ≡ option_or one other → cond b (Some value) both ≡ option_or (cond b (Some value) one) other
pick true value both one other e = refl
pick false value both one other e = e

lookup-append : (name : List ℕ) (one other : List (List ℕ × ℕ)) → lookup (bytes_eq name) (one ++ other) ≡ option_or (lookup (bytes_eq name) one) (lookup (bytes_eq name) other)
lookup-append name [] other = refl
lookup-append name (e ∷ one) other =
    grind (arith, lookup-append name one other)

or_stays : (o : Option ℕ) (value : ℕ) (p : Option ℕ) → o ≡ Some value → option_or o p ≡ Some value
or_stays None value p e = absurd (none-some value e)
or_stays (Some x) value p e = e

-- the name that a line adds is not another
other_name : (name label : List ℕ) (value : ℕ) → (Some label ≡ Some name → ⊥) → lookup (bytes_eq name) ((label, value) ∷ []) ≡ None
other_name name label value apart =
    grind (arith, cond-false, false_from_ne_true, bytes_eq-Decides)

adds_no : (name : List ℕ) (label : Option (List ℕ)) (place : ℕ) (ended : Bool) (names : List (List ℕ × ℕ)) → (label ≡ Some name → ⊥) → lookup (bytes_eq name) (option_to_list (new_label label place ended names)) ≡ None
adds_no name None place ended _ apart = refl
adds_no name (Some label) place ended names apart = pick (ended || is_some (lookup (bytes_eq label) names))
  where
    pick : (b : Bool) → lookup (bytes_eq name) (option_to_list (cond b None (Some (label, place)))) ≡ None
    pick true = refl
    pick false = other_name _ _ _ apart

not_there : (name : List ℕ) (earlier lines : List LineFields) → HasNotLabel name lines → lookup (bytes_eq name) (names_of earlier) ≡ None → lookup (bytes_eq name) (names_of (passed_lines earlier lines)) ≡ None
unfolding names_of
not_there name earlier [] apart none = none
not_there name earlier (line ∷ lines) apart none =
    let added = option_to_list (new_label line.label (place_of line earlier) (has_ended earlier) (names_of earlier)) in
    let step : lookup (bytes_eq name) (names_of (line ∷ earlier)) ≡ None =
    lookup-append name (names_of earlier) added ∙ ap (λ o. option_or o (lookup (bytes_eq name) added)) none ∙ adds_no _ _ _ _ _ (All-head (λ l. l.label ≢ Some name) line lines apart) in
    not_there name (line ∷ earlier) lines (All-tail (λ l. l.label ≢ Some name) line lines apart) step

stays : (name : List ℕ) (value : ℕ) (earlier lines : List LineFields) → lookup (bytes_eq name) (names_of earlier) ≡ Some value → lookup (bytes_eq name) (names_of (passed_lines earlier lines)) ≡ Some value
unfolding names_of
stays name value earlier [] there = there
stays name value earlier (line ∷ lines) there =
    let added = option_to_list (new_label line.label (place_of line earlier) (has_ended earlier) (names_of earlier)) in
    stays name value (line ∷ earlier) lines (lookup-append name (names_of earlier) added ∙ or_stays _ _ (lookup (bytes_eq name) added) there)

or_true : (b : Bool) → (b || true) ≡ true
or_true true = refl
or_true false = refl

after_end : (earlier lines : List LineFields) → has_ended earlier ≡ true → names_of (passed_lines earlier lines) ≡ names_of earlier
unfolding names_of has_ended
after_end earlier [] ended = refl
after_end earlier (line ∷ lines) ended =
    let still : has_ended (line ∷ earlier) ≡ true = ap (λ b. is_end line.operation || b) ended ∙ or_true _ in
    let none : names_of (line ∷ earlier) ≡ names_of earlier =
    ap (λ b. names_of earlier ++ option_to_list (new_label line.label (place_of line earlier) b (names_of earlier))) ended
    ∙ ap (λ o. names_of earlier ++ option_to_list o) (none_new _ _ _) ∙ append-nil (names_of earlier) in
    after_end (line ∷ earlier) lines still ∙ none
  where
    none_new : (label : Option (List ℕ)) (place : ℕ) (names : List (List ℕ × ℕ)) → new_label label place true names ≡ None
    none_new None place names = refl
    none_new (Some label) place names = refl

itself : (name : List ℕ) (place : ℕ) (names : List (List ℕ × ℕ)) (label : Option (List ℕ)) (ended : Bool) → label ≡ Some name → ended ≡ false → lookup (bytes_eq name) names ≡ None
    → lookup (bytes_eq name) (names ++ option_to_list (new_label label place ended names)) ≡ Some place
itself name place names label ended is live none =
    let new : new_label label place ended _ ≡ Some (name, place) =
    ap (λ l. new_label l place ended names) is ∙ ap (λ b. new_label (Some name) place b names) live ∙ cond-false (is_some (lookup (bytes_eq name) names)) None (Some (name, place)) (ap is_some none) in
    let one : lookup (bytes_eq name) ((name, place) ∷ []) ≡ Some place = cond-true (bytes_eq name name) (Some place) None ((bytes_eq-Decides name _).1 refl) in
    ap (λ o. lookup (bytes_eq name) (names ++ option_to_list o)) new ∙ lookup-append name names ((name, place) ∷ []) ∙ ap (λ o. option_or o (lookup (bytes_eq name) ((name, place) ∷ []))) none ∙ one

none_at_all : (name : List ℕ) → lookup (bytes_eq name) (names_of []) ≡ None
unfolding names_of
none_at_all name = refl

pub names_law : (name : List ℕ) (before after : List LineFields) → NamesAreFirstPlaces name before after
unfolding names_of
names_law name before after = record {
  first = λ line live apart is.
      let earlier = passed_lines [] before in
      let absent = not_there _ [] _ apart (none_at_all name) in
      ap (λ ls. lookup (bytes_eq name) (names_of ls)) (passed-append [] before (line ∷ after))
      ∙ stays name (place_of line earlier) (line ∷ earlier) after (itself name (place_of line earlier) (names_of earlier) line.label (has_ended earlier) is (has_ended-in_order before ∙ live) absent);
  none = λ apart over.
      let earlier = passed_lines [] before in
      let absent = not_there _ [] _ apart (none_at_all name) in
      ap (λ ls. lookup (bytes_eq name) (names_of ls)) (passed-append [] before after)
      ∙ ⊎_elim
      (λ ended. ap (lookup (bytes_eq name)) (after_end _ after (has_ended-in_order _ ∙ ended)) ∙ absent)
      (λ empty. ap (λ ls. lookup (bytes_eq name) (names_of (passed_lines earlier ls))) empty ∙ absent)
      over;
}

-- The law on the faults of a source.
use Rattle.std.proofs.Common.{◌≡◌, ◌⊎◌, ◌++◌, ◌&&◌, ◌||◌, ◌==◌, ℕ, true, List, [], ◌∷◌, length, arith, refl, sym, ap, ◌∙◌, inl, inr, ⊎_elim}
use Rattle.std.proofs.Math.Bool.{or-true}
use Rattle.std.proofs.lemmas.Bool.{and_from, and_parts, eq-eqb, eqb-true, or_cases, true≢false}
use Rattle.lgp_assembler.specs.Fields.{LineFields}
use Rattle.lgp_assembler.specs.Places.{has_ended, has_word, is_taken, place_of}
use Rattle.lgp_assembler.specs.Faults.{end_fault, fault_of, faults_in}
use Rattle.lgp_assembler.specs.Image.{all_lines, image_of, passed_lines}
use Rattle.lgp_assembler.specs.Laws.{first_faults, lines_in, FaultsFollowLines, HasWordAt}
use Rattle.lgp_assembler.proofs.PlaceLaws.{has_ended-in_order, length-passed, passed-append}

-- ---- a line with a word at a place, among some lines after others

record HasWordBehind (earlier lines : List LineFields) (place : ℕ) : Type 0 where
  before : List LineFields
  line : LineFields
  after : List LineFields
  lines_are : lines ≡ before ++ line ∷ after
  makes_word : has_word line ≡ true
  there : place_of line (passed_lines earlier before) ≡ place

taken_from : (place : ℕ) (earlier lines : List LineFields) → is_taken place (passed_lines earlier lines) ≡ true → (is_taken place earlier ≡ true) ⊎ HasWordBehind earlier lines place
unfolding is_taken
taken_from place earlier [] taken = inl taken
taken_from place earlier (line ∷ lines) taken = ⊎_elim
    (λ so_far. ⊎_elim
    (λ own.
    let parts = and_parts (has_word line) (place_of line earlier == place) own in
    inr (record { before = []; line = line; after = lines; lines_are = refl; makes_word = parts.0; there = eqb-true (place_of line earlier) place parts.1 }))
    (λ before. inl before)
    (or_cases (has_word line && place_of line earlier == place) (is_taken place earlier) so_far))
    (λ later. inr (record {
      before = line ∷ later.before;
      line = later.line;
      after = later.after;
      lines_are = ap (λ more. line ∷ more) later.lines_are;
      makes_word = later.makes_word;
      there = later.there;
    }))
    (taken_from _ _ _ taken)

taken_stays : (place : ℕ) (earlier lines : List LineFields) → is_taken place earlier ≡ true → is_taken place (passed_lines earlier lines) ≡ true
unfolding is_taken
taken_stays place earlier [] taken = taken
taken_stays place earlier (line ∷ lines) taken =
    let own = has_word line && place_of line earlier == place in
    taken_stays place (line ∷ earlier) lines (ap (λ b. own || b) taken ∙ or-true _)

word_among : (place : ℕ) (lines : List LineFields) → is_taken place (passed_lines [] lines) ≡ true → HasWordAt lines place
unfolding is_taken
word_among place lines taken = ⊎_elim
    (λ none. absurd (true≢false (sym none)))
    (λ later. record {
      before = later.before;
      line = later.line;
      after = later.after;
      lines_are = later.lines_are;
      makes_word = later.makes_word;
      there = later.there;
    })
    (taken_from _ [] _ taken)

taken_by : (place : ℕ) (lines : List LineFields) → HasWordAt lines place → is_taken place (passed_lines [] lines) ≡ true
unfolding is_taken
taken_by place lines among =
    let earlier = passed_lines [] among.before in
    let here : (place_of among.line earlier == place) ≡ true = eq-eqb (place_of among.line earlier) place among.there in
    let own : (has_word among.line && place_of among.line earlier == place) ≡ true = and_from _ _ among.makes_word here in
    ap (λ all. is_taken place (passed_lines [] all)) among.lines_are
    ∙ ap (is_taken place) (passed-append [] among.before (among.line ∷ among.after))
    ∙ taken_stays place (among.line ∷ earlier) among.after (ap (λ b. b || is_taken place earlier) own)

-- ---- the law

pub faults_law : (source : List ℕ) (before : List LineFields) (line : LineFields) → FaultsFollowLines source before line
unfolding faults_in fault_of all_lines
faults_law source before line = record {
  none = refl;
  more = ap (faults_in (image_of source).symbols) (passed-append [] before (line ∷ []));
  all =
      let lines = lines_in source in
      let reported = first_faults source lines in
      ap (λ ended. reported ++ end_fault ended (length (passed_lines [] lines))) (has_ended-in_order _)
      ∙ ap (λ count. reported ++ end_fault (has_ended lines) count) (length-passed [] lines ∙ omega arith);
  first_row = refl;
  past_end = has_ended-in_order before;
  place_taken = (λ taken. word_among _ before taken, λ among. taken_by _ before among);
}

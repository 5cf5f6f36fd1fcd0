-- One line more in a draft.
use Rattle.std.proofs.Common.{◌≡◌, ◌<◌, ◌≤◌, ◌+◌, ◌&&◌, ◌||◌, ◌==◌, ◌++◌, ℕ, Bool, true, false, List, [], ◌∷◌, length, Option, None, Some, Result, Ok, Err, refl, sym, ap, subst, ◌∙◌, arith, ⊎_elim, nat_lt, nat_le, unwrap_or, option_to_list, option_map, is_some, slice_index_or}
use Rattle.std.specs.Option.{option_map_or, option_or}
use Rattle.std.specs.List.{list_all}
use Rattle.std.specs.Char.{is_ascii_digit}
use Rattle.std.proofs.lemmas.Bool.{cases_Bool, cond-true, cond-false, ltb-true, and_parts, and_from, true≢false}
use Rattle.std.proofs.lemmas.Option.{none-some, cond_some}
use Rattle.lgp_word.specs.Digits.{address_text, two_at}
use Rattle.lgp_assembler.specs.declared.operations.Operation.{Operation}
use Rattle.lgp_assembler.specs.declared.operations.Operation.TheVariants.{Order, MinusT, Org, Word, Frac, Int, End}
use Rattle.lgp_assembler.specs.declared.operands.Meaning.{Meaning}
use Rattle.lgp_assembler.specs.declared.operands.Meaning.TheVariants.{Cell, Place, Nothing}
use Rattle.lgp_assembler.specs.declared.operands.OperandFault.{OperandFault}
use Rattle.lgp_assembler.specs.declared.refusal.Fault.{Fault}
use Rattle.lgp_assembler.specs.declared.refusal.FaultKind.{FaultKind}
use Rattle.lgp_word.specs.Address.{IsAddress}
use Rattle.lgp_word.specs.Word.{IsWord}
use Rattle.lgp_word.specs.Drum.{drum_size}
use Rattle.lgp_assembler.specs.Parts.{is_loaders, AreProgramCells}
use Rattle.lgp_assembler.specs.Operations.{makes_word}
use Rattle.lgp_assembler.specs.AddressOperands.{is_name}
use Rattle.lgp_assembler.specs.Operands.{meaning_of, place_meaning}
use Rattle.lgp_assembler.specs.Fields.{LineFields}
use Rattle.lgp_assembler.specs.Places.{has_word, word_count, org_address, next_place, place_reached, place_of, has_ended, new_label, names_of}
use Rattle.lgp_assembler.specs.Faults.{says_something, is_bad_label, is_label_again, line_meaning, first_kind, numbered_fault, faults_in}
use Rattle.lgp_assembler.specs.Image.{cell_at, cells_in, start_at, start_in}
use Rattle.lgp_assembler.specs.ScanInside.{rows, IfCell, Stands, ArePlacesTaken, coming_fault, SymbolFits, symbol_at, IsDraftOf}
use Rattle.lgp_assembler.proofs.Rows.{kind_here, kind_after, fault_stands}

-- ---- where no row holds

abbrev pub AllFail : List (Bool × FaultKind) → Type 0
AllFail [] = Unit {0}
AllFail (row ∷ more) = (row.0 ≡ false) × AllFail more

pub none_fails : (all : List (Bool × FaultKind)) → first_kind all ≡ None → AllFail all
none_fails [] none = tt
none_fails (row ∷ more) none = ⊎_elim
    (λ yes. absurd (none-some row.1 (sym none ∙ kind_here _ _ more yes)))
    (λ fails. (fails, none_fails more (sym (kind_after _ _ more fails) ∙ none)))
    (cases_Bool row.0)

-- the rows that an image needs
record Clear (line : LineFields) (place : ℕ) (ended : Bool) (before : List (List ℕ × ℕ)) : Type 0 where
  live : (ended && says_something line) ≡ false
  label : is_bad_label line.label ≡ false
  fresh : is_label_again line.label before ≡ false
  within : (has_word line && nat_le drum_size place) ≡ false
  free : (has_word line && is_loaders place) ≡ false

clear_rows : (line : LineFields) (meaning : Result Meaning OperandFault) (place : ℕ) (ended : Bool) (before : List (List ℕ × ℕ)) (taken : Bool) → first_kind (rows line meaning place ended before taken) ≡ None → Clear line place ended before
clear_rows line meaning place ended _ taken none =
    let all = none_fails (rows line meaning place ended _ taken) none in
    record {
      live = all.1.0;
      label = all.1.1.1.0;
      fresh = all.1.1.1.1.0;
      within = all.1.1.1.1.1.1.1.1.1.1.0;
      free = all.1.1.1.1.1.1.1.1.1.1.1.0;
    }

-- ---- a place on the drum

address_small : (text : List ℕ) (n : ℕ) → address_text text ≡ Some n → n < 4096
address_small text n e =
    let parts = cond_some _ _ n e in
    let last = and_parts ((length text == 4) && list_all is_ascii_digit text && nat_lt (two_at text 0) 64) (nat_lt (two_at text 2) 64) parts.0 in
    let first = and_parts ((length text == 4) && list_all is_ascii_digit text) (nat_lt (two_at text 0) 64) last.0 in
    let low = ltb-true (two_at text 2) 64 last.1 in
    let high = ltb-true (two_at text 0) 64 first.1 in
    subst (λ m. m < 4096) parts.1 (omega arith)

org_small : (operation : Option Operation) (first : Option (List ℕ)) (n : ℕ) → org_address operation first ≡ Some n → n < 4096
org_small (Some Org) (Some text) n e = address_small text n e
org_small (Some Org) None n e = absurd (none-some n e)
org_small (Some (Order op)) first n e = absurd (none-some n e)
org_small (Some MinusT) first n e = absurd (none-some n e)
org_small (Some Word) first n e = absurd (none-some n e)
org_small (Some Frac) first n e = absurd (none-some n e)
org_small (Some Int) first n e = absurd (none-some n e)
org_small (Some End) first n e = absurd (none-some n e)
org_small None first n e = absurd (none-some n e)

or_place_small : (address : Option ℕ) (place : ℕ) → ((n : ℕ) → address ≡ Some n → n < 4096) → place ≤ 4096 → unwrap_or address place ≤ 4096
or_place_small None place small within = within
or_place_small (Some n) place small within =
    let below : n < 4096 = small n refl in omega arith

place_small : (line : LineFields) (place : ℕ) → place ≤ 4096 → place_reached line place ≤ 4096
place_small line place within =
    grind (arith, or_place_small, org_small)

pub word_within : (line : LineFields) (place : ℕ) → (has_word line && nat_le drum_size place) ≡ false → has_word line ≡ true → place < 4096
word_within line place e word = grind (arith, and_from)

next_small : (line : LineFields) (place : ℕ) → place ≤ 4096 → (has_word line ≡ true → place < 4096) → place + word_count line ≤ 4096
next_small line place within small = grind (arith, cond-true, cond-false)

-- ---- a word comes from an operation that makes one

any_fits : (place : ℕ) (r : Result Meaning OperandFault) → place < 4096 → IfCell r (λ word. IsAddress place)
any_fits place (Ok (Cell word)) small = small
any_fits place (Ok (Place address)) small = tt
any_fits place (Ok Nothing) small = tt
any_fits place (Err fault) small = tt

place_fits : (place : ℕ) (r : Result ℕ OperandFault) → IfCell (place_meaning r) (λ word. IsAddress place)
place_fits place (Ok address) = tt
place_fits place (Err fault) = tt

meaning_fits : (names : List (List ℕ × ℕ)) (here place : ℕ) (operation : Operation) (first second : Option (List ℕ)) → (makes_word operation ≡ true → place < 4096) → IfCell (meaning_of names here operation first second) (λ word. IsAddress place)
unfolding meaning_of
meaning_fits names here place (Order op) first second small = any_fits _ _ (small refl)
meaning_fits names here place MinusT first second small = any_fits _ _ (small refl)
meaning_fits names here place Word first second small = any_fits _ _ (small refl)
meaning_fits names here place Frac first second small = any_fits _ _ (small refl)
meaning_fits names here place Int first second small = any_fits _ _ (small refl)
meaning_fits names here place Org None second small = tt
meaning_fits names here place Org (Some text) second small = place_fits _ _
meaning_fits names here place End None second small = tt
meaning_fits names here place End (Some text) second small = place_fits _ _

pub line_fits : (operation : Option Operation) (names : List (List ℕ × ℕ)) (here place : ℕ) (line : LineFields) → (option_map_or makes_word operation false ≡ true → place < 4096) → IfCell (option_map_or (λ o. meaning_of names here o line.first line.second) operation (Ok Nothing)) (λ word. IsAddress place)
line_fits None names here place line small = tt
line_fits (Some operation) names here place line small = meaning_fits _ _ _ _ _ _ small

-- ---- the cell of a line is one of a program

pub word_free : (line : LineFields) (place : ℕ) → (has_word line && is_loaders place) ≡ false → has_word line ≡ true → is_loaders place ≡ false
word_free line place e word = sym (ap (λ w. w && is_loaders place) word) ∙ e

one_cell : (place : ℕ) (r : Result Meaning OperandFault) → IfCell r (λ word. IsAddress place) → IfCell r (λ word. is_loaders place ≡ false) → IfCell r IsWord → AreProgramCells (option_to_list (cell_at place r))
one_cell place (Ok (Cell word)) small free is = ((small, free, is), tt)
one_cell place (Ok (Place address)) small free is = tt
one_cell place (Ok Nothing) small free is = tt
one_cell place (Err fault) small free is = tt

cell_free : (place : ℕ) (r : Result Meaning OperandFault) → is_loaders place ≡ false → IfCell r (λ word. is_loaders place ≡ false)
cell_free place (Ok (Cell word)) free = free
cell_free place (Ok (Place address)) free = tt
cell_free place (Ok Nothing) free = tt
cell_free place (Err fault) free = tt

place_free : (place : ℕ) (r : Result ℕ OperandFault) → IfCell (place_meaning r) (λ word. is_loaders place ≡ false)
place_free place (Ok address) = tt
place_free place (Err fault) = tt

meaning_free : (names : List (List ℕ × ℕ)) (here place : ℕ) (operation : Operation) (first second : Option (List ℕ)) → (makes_word operation ≡ true → is_loaders place ≡ false) → IfCell (meaning_of names here operation first second) (λ word. is_loaders place ≡ false)
unfolding meaning_of
meaning_free names here place (Order op) first second free = cell_free place _ (free refl)
meaning_free names here place MinusT first second free = cell_free place _ (free refl)
meaning_free names here place Word first second free = cell_free place _ (free refl)
meaning_free names here place Frac first second free = cell_free place _ (free refl)
meaning_free names here place Int first second free = cell_free place _ (free refl)
meaning_free names here place Org None second free = tt
meaning_free names here place Org (Some text) second free = place_free place _
meaning_free names here place End None second free = tt
meaning_free names here place End (Some text) second free = place_free place _

line_free : (operation : Option Operation) (names : List (List ℕ × ℕ)) (here place : ℕ) (line : LineFields) → (option_map_or makes_word operation false ≡ true → is_loaders place ≡ false) → IfCell (option_map_or (λ o. meaning_of names here o line.first line.second) operation (Ok Nothing)) (λ word. is_loaders place ≡ false)
line_free None names here place line free = tt
line_free (Some operation) names here place line free = meaning_free _ _ place _ _ _ free

cells_append : (one other : List (ℕ × ℕ)) → AreProgramCells one → AreProgramCells other → AreProgramCells (one ++ other)
cells_append [] other all more = more
cells_append (cell ∷ one) other all more = (all.0, cells_append one other all.1 more)

-- ---- a label that is new

label_short : (label : List ℕ) → is_bad_label (Some label) ≡ false → length label ≤ 8
unfolding is_name
label_short label e =
    grind arith

symbol_fits : (label : Option (List ℕ)) (place : ℕ) → is_bad_label label ≡ false → place ≤ 4096 → SymbolFits label place
symbol_fits None place e within = tt
symbol_fits (Some label) place e within = (label_short _ e, within)

symbol_is : (label : Option (List ℕ)) (place : ℕ) (ended : Bool) (before : List (List ℕ × ℕ)) (has_operation : Bool) → (ended && (is_some label || has_operation)) ≡ false → is_label_again label before ≡ false → symbol_at label place ≡ new_label label place ended before
symbol_is None place ended _ has_operation live fresh = refl
symbol_is (Some label) place false before has_operation live fresh = grind (arith, cond-false)
symbol_is (Some label) place true before has_operation live fresh = absurd (true≢false live)

-- ---- one line more

pub append_none : {A : Type 0} (xs ys : List A) → xs ++ ys ≡ [] → (xs ≡ []) × (ys ≡ [])
append_none [] ys e = (refl, e)
append_none (x ∷ xs) ys e = absurd (cc)

pub list_none : (number : ℕ) (kind : Option FaultKind) → option_to_list (option_map (numbered_fault number) kind) ≡ [] → kind ≡ None
list_none number None e = refl
list_none number (Some kind) e = absurd (cc)

pub draft_step : (names : List (List ℕ × ℕ)) (line : LineFields) (lines place : ℕ) (ended : Bool) (before : List (List ℕ × ℕ)) (taken : List Bool) (earlier : List LineFields)
    → (faults faults' : List Fault) (cells cells' : List (ℕ × ℕ)) (start start' : Option ℕ) (symbols symbols' : List (List ℕ × ℕ))
    → (here : ℕ) → here ≡ place_reached line place → Stands lines place ended before earlier → ArePlacesTaken taken earlier → IsDraftOf names faults cells start symbols earlier
    → faults' ≡ faults ++ option_to_list (option_map (numbered_fault line.number) (coming_fault line (line_meaning names here line) here ended before taken))
    → (faults' ≡ [] → IfCell (line_meaning names here line) (λ word. IsAddress here) → cells' ≡ cells ++ option_to_list (cell_at here (line_meaning names here line)))
    → (faults' ≡ [] → start' ≡ option_or start (start_at line.operation (line_meaning names here line)))
    → (faults' ≡ [] → SymbolFits line.label here → symbols' ≡ symbols ++ option_to_list (symbol_at line.label here))
    → (faults' ≡ [] → IfCell (line_meaning names here line) IsWord)
    → IsDraftOf names faults' cells' start' symbols' (line ∷ earlier)
unfolding faults_in cells_in start_in names_of next_place
draft_step names line lines place ended before taken earlier faults faults' cells cells' start start' symbols symbols' here at s marks d faults_e cells_e start_e symbols_e word_e =
    let here_is : here ≡ place_of line earlier = at ∙ ap (place_reached line) s.place_is in
    let kind = coming_fault line (line_meaning names here line) here ended before taken in
    let reported = numbered_fault line.number in
    record {
      faults_are = faults_e ∙ ap (λ fs. fs ++ option_to_list (option_map reported kind)) d.faults_are
          ∙ ap (λ h. faults_in names earlier ++ option_to_list (option_map reported (coming_fault line (line_meaning names h line) h ended before taken))) at
          ∙ ap (λ k. faults_in names earlier ++ option_to_list (option_map reported k)) (fault_stands names line lines place ended before taken earlier s marks);
      image = λ none.
          let both = append_none faults (option_to_list (option_map reported kind)) (sym faults_e ∙ none) in
          let clear = clear_rows line (line_meaning names here line) here ended before (slice_index_or taken here false) (list_none line.number kind both.1) in
          let image = d.image both.0 in
          let small : here ≤ 4096 = subst (λ h. h ≤ 4096) (sym at) (place_small line place (subst (λ p. p ≤ 4096) (sym s.place_is) image.within)) in
          let word_small : has_word line ≡ true → here < 4096 = word_within line here clear.within in
          let fits : IfCell (line_meaning names here line) (λ word. IsAddress here) = line_fits line.operation names here here line word_small in
          record {
            cells_are = cells_e none fits
                ∙ ap (λ cs. cs ++ option_to_list (cell_at here (line_meaning names here line))) image.cells_are
                ∙ ap (λ h. cells_in names earlier ++ option_to_list (cell_at h (line_meaning names h line))) here_is;
            start_is = start_e none ∙ ap (λ o. option_or o (start_at line.operation (line_meaning names here line))) image.start_is
                ∙ ap (λ h. option_or (start_in names earlier) (start_at line.operation (line_meaning names h line))) here_is;
            symbols_are = symbols_e none (symbol_fits line.label here clear.label small)
                ∙ ap (λ ns. ns ++ option_to_list (symbol_at line.label here)) image.symbols_are
                ∙ ap (λ o. names_of earlier ++ option_to_list o) (symbol_is line.label here ended before line.has_operation clear.live clear.fresh)
                ∙ ap (λ h. names_of earlier ++ option_to_list (new_label line.label h ended before)) here_is
                ∙ ap (λ b. names_of earlier ++ option_to_list (new_label line.label (place_of line earlier) b before)) s.ended_is
                ∙ ap (λ ns. names_of earlier ++ option_to_list (new_label line.label (place_of line earlier) (has_ended earlier) ns)) s.names_are;
            within = subst (λ h. h + word_count line ≤ 4096) here_is (next_small line here small word_small);
            program = subst AreProgramCells (sym (cells_e none fits))
                (cells_append cells (option_to_list (cell_at here (line_meaning names here line))) image.program
                (one_cell here (line_meaning names here line) fits (line_free line.operation names here here line (word_free line here clear.free)) (word_e none)));
          };
    }

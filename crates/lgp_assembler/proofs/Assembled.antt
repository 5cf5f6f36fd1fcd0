-- What the draft of a whole source is.
use Rattle.std.proofs.Common.{◌≡◌, ◌++◌, ℕ, Bool, List, [], ◌∷◌, Option, refl, sym, ap, subst, ◌∙◌}
use Rattle.std.proofs.Common.{Result, Ok, Err, IfOk, OnOk, IfErr}
use Rattle.lgp_assembler.specs.declared.refusal.AssembleError.{AssembleError}
use Rattle.lgp_assembler.specs.declared.refusal.AssembleError.TheVariants.{Faults, Memory}
use Rattle.lgp_assembler.specs.Answers.{IfFaults}
use Rattle.lgp_assembler.specs.declared.refusal.Fault.{Fault}
use Rattle.lgp_assembler.specs.Places.{has_ended, names_of}
use Rattle.lgp_assembler.specs.Faults.{end_fault, faults_in}
use Rattle.lgp_assembler.specs.Parts.{ImageParts, AreProgramCells, HaveOwnPlaces}
use Rattle.lgp_assembler.specs.Image.{all_lines, cells_in, start_in, faults_of, image_of}
use Rattle.lgp_assembler.specs.ScanInside.{Stands, IsDraftOf}
use Rattle.lgp_assembler.proofs.OwnPlaces.{own_places}

pub first_none : (xs ys : List Fault) → xs ++ ys ≡ [] → xs ≡ []
first_none [] ys e = refl
first_none (x ∷ xs) ys e = cc

module _ (source : List ℕ) (count place : ℕ) (ended : Bool) (names : List (List ℕ × ℕ))
    (faults : List Fault) (cells : List (ℕ × ℕ)) (start : Option ℕ) (symbols : List (List ℕ × ℕ))
    (s : Stands count place ended names (all_lines source)) (d : IsDraftOf names faults cells start symbols (all_lines source)) where
  pub faults_reported : faults ++ end_fault ended count ≡ faults_of source
  faults_reported =
      let lines = all_lines source in
      ap (λ fs. fs ++ end_fault ended count) d.faults_are
      ∙ ap (λ ns. faults_in ns lines ++ end_fault ended count) s.names_are
      ∙ ap (λ b. faults_in (names_of lines) lines ++ end_fault b count) s.ended_is
      ∙ ap (λ n. faults_in (names_of lines) lines ++ end_fault (has_ended lines) n) s.lines_are

  pub image_made : faults ++ end_fault ended count ≡ [] → ◌≡◌ {A = ImageParts} (record { cells = cells; start = start; symbols = symbols }) (image_of source)
  image_made none =
      let lines = all_lines source in
      let image = d.image (first_none _ _ none) in
      ap (λ cs. record { cells = cs; start = start; symbols = symbols }) (image.cells_are ∙ ap (λ ns. cells_in ns lines) s.names_are)
      ∙ ap (λ st. record { cells = cells_in (names_of lines) lines; start = st; symbols = symbols }) (image.start_is ∙ ap (λ ns. start_in ns lines) s.names_are)
      ∙ ap (λ sy. record { cells = cells_in (names_of lines) lines; start = start_in (names_of lines) lines; symbols = sy }) image.symbols_are

-- and its cells are those of a program
pub cells_clear : (source : List ℕ) (names : List (List ℕ × ℕ)) (faults more all : List Fault) (cells : List (ℕ × ℕ)) (start : Option ℕ) (symbols : List (List ℕ × ℕ))
    → IsDraftOf names faults cells start symbols (all_lines source) → all ≡ faults ++ more → all ≡ [] → AreProgramCells cells
cells_clear source names faults more all cells start symbols d e none =
    (d.image (first_none _ _ (sym e ∙ none))).program

-- which lie at places of their own
pub cells_apart : (source : List ℕ) (names : List (List ℕ × ℕ)) (faults more all : List Fault) (cells : List (ℕ × ℕ)) (start : Option ℕ) (symbols : List (List ℕ × ℕ))
    → IsDraftOf names faults cells start symbols (all_lines source) → all ≡ faults ++ more → all ≡ [] → HaveOwnPlaces cells
cells_apart source names faults more all cells start symbols d e none =
    let clear = first_none _ _ (sym e ∙ none) in
    subst HaveOwnPlaces (sym (d.image clear).cells_are) (own_places _ (all_lines source) (sym d.faults_are ∙ clear))

-- what an image is, where it is that of a draft without faults
pub ok_image : {E : Type 0} (r : Result ImageParts E) (draft image : ImageParts) (P : Type 0) → IfOk r (λ i. i ≡ draft) → OnOk r P → (P → draft ≡ image) → IfOk r (λ i. i ≡ image)
ok_image (Ok i) draft image P is p e = is ∙ e p
ok_image (Err error) draft image P is p e = tt

pub ok_faultless : {E : Type 0} (r : Result ImageParts E) (one other : List Fault) → OnOk r (one ≡ []) → one ≡ other → OnOk r (other ≡ [])
ok_faultless (Ok i) one other none e = sym e ∙ none
ok_faultless (Err error) one other none e = tt

pub err_faults : {A X : Type 0} (r : Result X (AssembleError A)) (one other : List Fault) → IfErr r (λ error. IfFaults error (λ faults. faults ≡ one)) → one ≡ other → IfErr r (λ error. IfFaults error (λ faults. faults ≡ other))
err_faults (Ok i) one other is e = tt
err_faults (Err (Faults faults)) one other is e = is ∙ e
err_faults (Err Memory) one other is e = tt

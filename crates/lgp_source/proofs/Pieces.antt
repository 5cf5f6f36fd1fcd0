-- How the lines that are cut after their line feeds give the pieces between line feeds.
use Rattle.std.proofs.Common.{◌≡◌, ◌<◌, ◌-◌, ℕ, zero, suc, true, false, ◌==◌, List, [], ◌∷◌, length, take, drop, map, get_or, refl, sym, ap, ◌∙◌, arith, ⊎_elim}
use Rattle.std.proofs.lemmas.Bool.{cases_Bool, cond-true, cond-false, eq-eqb, ne_eqb}
use Rattle.bstr.specs.Text.{line_len, lines_of as cut_lines}
use Rattle.bstr.proofs.lemmas.LineLemmas.{line_len-bounds, lines-nil, lines-step}
use native.Mathlib.Numerals.{unary_clauses}
use Rattle.lgp_source.specs.Source.{without_last, before_pieces, pieces}

pub without_last_yes : (bytes : List ℕ) (mark : ℕ) → 0 < length bytes → get_or bytes (length bytes - 1) 0 ≡ mark → without_last mark bytes ≡ take (length bytes - 1) bytes
without_last_yes [] mark some e = absurd (omega arith)
without_last_yes (b ∷ []) mark some e = cond-true _ _ _ (eq-eqb b mark e)
without_last_yes (b ∷ c ∷ rest) mark some e =
    let last : get_or (c ∷ rest) (length (c ∷ rest) - 1) 0 ≡ mark = simp unary_clauses (simp unary_clauses at e) in
    simp unary_clauses (ap (λ t. b ∷ t) (without_last_yes (c ∷ rest) mark (omega arith) last ∙ simp unary_clauses refl))

pub without_last_no : (bytes : List ℕ) (mark : ℕ) → (0 < length bytes → get_or bytes (length bytes - 1) 0 ≡ mark → ⊥) → without_last mark bytes ≡ bytes
without_last_no [] mark other = refl
without_last_no (b ∷ []) mark other = cond-false _ _ _ (ne_eqb b mark (other (omega arith)))
without_last_no (b ∷ c ∷ rest) mark other =
    ap (λ t. b ∷ t) (without_last_no _ _ (λ some e. other (omega arith) (simp unary_clauses (simp unary_clauses at e))))

first_line : (b : ℕ) (rest : List ℕ) → cut_lines (b ∷ rest) ≡ take (line_len (b ∷ rest)) (b ∷ rest) ∷ cut_lines (drop (line_len (b ∷ rest)) (b ∷ rest))
first_line b rest = lines-step (b ∷ rest) (omega arith)

len_feed : (b : ℕ) (rest : List ℕ) → (b == 10) ≡ true → line_len (b ∷ rest) ≡ 1
unfolding line_len
len_feed b rest e = cond-true _ _ _ e

len_other : (b : ℕ) (rest : List ℕ) → (b == 10) ≡ false → line_len (b ∷ rest) ≡ suc (line_len rest)
unfolding line_len
len_other b rest e = cond-false _ _ _ e

len_nil : line_len [] ≡ 0
unfolding line_len
len_nil = refl

-- `b` before the first line of a rest that has one
joined : (b c : ℕ) (more : List ℕ) (n : ℕ) (after : List (List ℕ)) → 0 < n
    → without_last 10 (b ∷ take n (c ∷ more)) ∷ after ≡ before_pieces b (without_last 10 (take n (c ∷ more)) ∷ after)
joined b c more zero after some = absurd (omega arith)
joined b c more (suc n) after some = refl

opened : (b : ℕ) (rest : List ℕ) → (b == 10) ≡ false
    → without_last 10 (b ∷ take (line_len rest) rest) ∷ map (without_last 10) (cut_lines (drop (line_len rest) rest)) ≡ before_pieces b (map (without_last 10) (cut_lines rest))
opened b [] e =
    let none : map (without_last 10) (cut_lines []) ≡ [] = ap (map (without_last 10)) lines-nil in
    let start : without_last 10 (b ∷ take (line_len []) []) ∷ map (without_last 10) (cut_lines (drop (line_len []) [])) ≡ without_last 10 (b ∷ []) ∷ map (without_last 10) (cut_lines []) =
    ap (λ n. without_last 10 (b ∷ take n []) ∷ map (without_last 10) (cut_lines (drop n []))) len_nil in
    start ∙ ap (λ t. t ∷ map (without_last 10) (cut_lines [])) (cond-false (b == 10) [] (b ∷ []) e) ∙ ap (λ t. (b ∷ []) ∷ t) none ∙ sym (ap (before_pieces b) none)
opened b (c ∷ more) e =
    let rest = c ∷ more in
    joined b c more (line_len rest) (map (without_last 10) (cut_lines (drop (line_len rest) rest))) (line_len-bounds rest (omega arith)).0
    ∙ sym (ap (λ t. before_pieces b (map (without_last 10) t)) (first_line c more))

-- the first line, where a line feed is in front
feed_first : (b : ℕ) (rest : List ℕ) → (b == 10) ≡ true → cut_lines (b ∷ rest) ≡ (b ∷ []) ∷ cut_lines rest
feed_first b rest e = first_line b rest ∙ ap (λ n. take n (b ∷ rest) ∷ cut_lines (drop n (b ∷ rest))) (len_feed b _ e)

other_first : (b : ℕ) (rest : List ℕ) → (b == 10) ≡ false → cut_lines (b ∷ rest) ≡ (b ∷ take (line_len rest) rest) ∷ cut_lines (drop (line_len rest) rest)
other_first b rest e = first_line b rest ∙ ap (λ n. take n (b ∷ rest) ∷ cut_lines (drop n (b ∷ rest))) (len_other b _ e)

-- the first byte before the rest
with_first : (b : ℕ) (rest : List ℕ) → map (without_last 10) (cut_lines rest) ≡ pieces rest → map (without_last 10) (cut_lines (b ∷ rest)) ≡ pieces (b ∷ rest)
with_first b rest so_far = ⊎_elim
    (λ feed. ap (map (without_last 10)) (feed_first b _ feed) ∙ ap (λ t. t ∷ map (without_last 10) (cut_lines rest)) (cond-true (b == 10) [] (b ∷ []) feed) ∙ ap (λ t. [] ∷ t) so_far ∙ sym (cond-true (b == 10) ([] ∷ pieces rest) (before_pieces b (pieces rest)) feed))
    (λ other. ap (map (without_last 10)) (other_first b _ other) ∙ opened b rest other ∙ ap (before_pieces b) so_far ∙ sym (cond-false (b == 10) ([] ∷ pieces rest) (before_pieces b (pieces rest)) other))
    (cases_Bool (b == 10))

pub pieces_are : (bytes : List ℕ) → map (without_last 10) (cut_lines bytes) ≡ pieces bytes
pieces_are [] = ap (map (without_last 10)) lines-nil
pieces_are (b ∷ rest) = with_first b rest (pieces_are rest)

pub ruleset without_last_cases = (without_last_yes, without_last_no)

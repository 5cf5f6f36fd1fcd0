-- Lines answered one after another, and more of them.
use Rattle.std.proofs.Common.{◌≡◌, ℕ, ◌+◌, ◌<◌, length, take, get_or, List, [], ◌∷◌, ◌++◌, map, refl, sym, ap, ◌∙◌, append_assoc}
use Rattle.std.specs.List.{concat}
use Rattle.std.specs.Borrow.{Bor}
use Rattle.std.proofs.lemmas.List.{append-nil, map-append, take_more}
use Rattle.std.proofs.lemmas.List.Folds.{concat-append}
use Rattle.lgp_stream.specs.Language.{Language, replies_to, state_after}
use Rattle.lgp_stream.proofs.StreamLemmas.{replies_to-append, state_after-append}
use Rattle.lgp_stream.specs.Transcript.{Recorded, after_lines, bytes_of, ended, replies_text}

abbrev text_of : List (List ℕ) → List ℕ
text_of lines = concat (map ended lines)

text_of-append : (xs ys : List (List ℕ)) → text_of (xs ++ ys) ≡ text_of xs ++ text_of ys
text_of-append [] ys = refl
text_of-append (x ∷ xs) ys = ap (λ (more : List ℕ). ended x ++ more) (text_of-append xs ys) ∙ sym (append_assoc (ended x) (concat (map ended xs)) (concat (map ended ys)))

pub after-append : {S : Type 0} (language : Language S) (r : Recorded S) (xs ys : List (List ℕ)) → after_lines language (after_lines language r xs) ys ≡ after_lines language r (xs ++ ys)
unfolding after_lines
after-append {S} language r xs ys =
    ap (λ (s : S). record { state = s; transcript = (r.transcript ++ text_of xs) ++ text_of ys }) (sym (state_after-append language _ xs ys))
    ∙ ap (λ (t : List ℕ). record { state = state_after language r.state (xs ++ ys); transcript = t })
    (append_assoc r.transcript (text_of xs) (text_of ys) ∙ ap (λ (t : List ℕ). r.transcript ++ t) (sym (text_of-append xs ys)))

pub replies-append : {S : Type 0} (language : Language S) (r : Recorded S) (xs ys : List (List ℕ)) → replies_text language r (xs ++ ys) ≡ replies_text language r xs ++ replies_text language (after_lines language r xs) ys
unfolding after_lines replies_text
replies-append language r xs ys =
    ap concat (replies_to-append language _ xs ys) ∙ concat-append (replies_to language r.state xs) (replies_to language (state_after language r.state xs) ys)

pub after-none : {S : Type 0} (language : Language S) (r : Recorded S) → after_lines language r [] ≡ r
unfolding after_lines
after-none language r = ap (λ (t : List ℕ). record { state = r.state; transcript = t }) (append-nil r.transcript)

pub replies-none : {S : Type 0} (language : Language S) (r : Recorded S) → replies_text language r [] ≡ []
unfolding replies_text
replies-none language r = refl

-- one text more of a list of them
bytes-more : (texts : List (Bor (List ℕ))) (i : ℕ) (d : Bor (List ℕ)) → i < length texts → bytes_of (take (i + 1) texts) ≡ bytes_of (take i texts) ++ (get_or texts i d).now ∷ []
bytes-more texts i d within = ap bytes_of (take_more _ i d within) ∙ map-append (λ (text : Bor (List ℕ)). text.now) (take i texts) (get_or texts i d ∷ [])

pub after-more : {S : Type 0} (language : Language S) (r now next : Recorded S) (texts : List (Bor (List ℕ))) (i : ℕ) (d : Bor (List ℕ)) → i < length texts
    → now ≡ after_lines language r (bytes_of (take i texts)) → next ≡ after_lines language now ((get_or texts i d).now ∷ []) → next ≡ after_lines language r (bytes_of (take (i + 1) texts))
after-more {S} language r now next texts i d within is_now is_next =
    is_next ∙ (ap (λ (s : Recorded S). after_lines language s ((get_or texts i d).now ∷ [])) is_now
    ∙ (after-append _ r _ _ ∙ ap (after_lines language r) (sym (bytes-more _ i d within))))

pub replies-more : {S : Type 0} (language : Language S) (r now : Recorded S) (old before after : List ℕ) (texts : List (Bor (List ℕ))) (i : ℕ) (d : Bor (List ℕ)) → i < length texts
    → now ≡ after_lines language r (bytes_of (take i texts)) → before ≡ old ++ replies_text language r (bytes_of (take i texts)) → after ≡ before ++ replies_text language now ((get_or texts i d).now ∷ [])
    → after ≡ old ++ replies_text language r (bytes_of (take (i + 1) texts))
replies-more {S} language r now old before after texts i d within is_now is_before is_after =
    let last : List (List ℕ) = (get_or texts i d).now ∷ [] in
    let so_far : List (List ℕ) = bytes_of (take i texts) in
    is_after ∙ (ap (λ (t : List ℕ). t ++ replies_text language now last) is_before
    ∙ (append_assoc old (replies_text language r so_far) (replies_text language now last)
    ∙ ap (λ (t : List ℕ). old ++ t) (ap (λ (s : Recorded S). replies_text language r so_far ++ replies_text language s last) is_now
    ∙ (sym (replies-append _ r _ _) ∙ ap (replies_text language r) (sym (bytes-more _ i d within))))))

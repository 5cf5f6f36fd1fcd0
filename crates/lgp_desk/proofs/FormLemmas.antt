-- Texts of files, taken line by line, and names without the spaces at their end.
use Rattle.std.proofs.Common.{◌≡◌, ℕ, ◌+◌, ◌-◌, ◌<◌, ◌≤◌, ◌&&◌, Bool, true, false, cond, List, [], ◌∷◌, ◌++◌, length, take, get_or, count_by, nat_lt, Option, Some, None, IfSome, IfNone, IfErr, IsErrOf, Result, Ok, Err, refl, sym, ap, subst, ◌∙◌, append_assoc, arith}
use Rattle.std.specs.List.{list_all}
use Rattle.std.specs.Option.{option_map_or}
use Rattle.std.specs.Result.{IsOkAnd, result_map_both}
use Rattle.std.specs.Str.Lines.{lines}
use Rattle.std.proofs.lemmas.Bool.Decides.{nat_tests}
use Rattle.std.proofs.lemmas.List.{append-nil, take_more}
use Rattle.lgp_flexo.specs.TapeText.{tape_limit, written_tape}
use Rattle.lgp_exchange.specs.Examined.{first_fault, words_of}
use Rattle.lgp_exchange.specs.TapeBytes.{first_no_code}
use Rattle.lgp_exchange.specs.declared.examined.ExaminedFault.{ExaminedFault}
use Rattle.lgp_exchange.specs.declared.examined.ExaminedFault.TheVariants.{Memory}
use Rattle.lgp_listing.specs.Dump.{dump_of}
use Rattle.lgp_stream.specs.KeptLine.{IsFirstLine, Kept}
use Rattle.lgp_stream.specs.Language.{is_line_feed}
use Rattle.lgp_stream.specs.LineWords.{has_no_word, is_space}
use Rattle.lgp_desk.specs.FileForms.{coded, dump_line, dump_lines, examined_trouble, simh_dump, tape_in, within_limit}
use Rattle.lgp_desk.specs.Requests.{trimmed}
use Rattle.lgp_desk.specs.declared.files.FileTrouble.{FileTrouble}
use Rattle.lgp_desk.specs.declared.files.FileTrouble.TheVariants as troubles

-- ---- spaces at the end

blank-more : (xs : List ℕ) → list_all is_space (xs ++ 32 ∷ []) ≡ list_all is_space xs
blank-more [] = refl
blank-more (x ∷ xs) = ap (λ (b : Bool). is_space x && b) (blank-more xs)

pub trimmed-space : (xs : List ℕ) → trimmed (xs ++ 32 ∷ []) ≡ trimmed xs
unfolding trimmed has_no_word
trimmed-space [] = refl
trimmed-space (x ∷ xs) =
    ap (λ (b : Bool). cond b [] (x ∷ trimmed (xs ++ 32 ∷ []))) (blank-more (x ∷ xs))
    ∙ ap (λ (rest : List ℕ). cond (list_all is_space (x ∷ xs)) [] (x ∷ rest)) (trimmed-space xs)

visible-last : (xs : List ℕ) (c : ℕ) → is_space c ≡ false → list_all is_space (xs ++ c ∷ []) ≡ false
visible-last [] c e = ap (λ (b : Bool). b && true) e
visible-last (x ∷ xs) c e = ap (λ (b : Bool). is_space x && b) (visible-last xs c e) ∙ and-false (is_space x) where
  and-false : (b : Bool) → (b && false) ≡ false
  and-false true = refl
  and-false false = refl

pub trimmed-kept : (xs : List ℕ) (c : ℕ) → is_space c ≡ false → trimmed (xs ++ c ∷ []) ≡ xs ++ c ∷ []
unfolding trimmed has_no_word
trimmed-kept [] c e = ap (λ (b : Bool). cond b [] (c ∷ [])) (visible-last [] c e)
trimmed-kept (x ∷ xs) c e =
    ap (λ (b : Bool). cond b [] (x ∷ trimmed (xs ++ c ∷ []))) (visible-last (x ∷ xs) c e)
    ∙ ap (λ (rest : List ℕ). x ∷ rest) (trimmed-kept xs c e)

-- the last of some first bytes
last-of : (text : List ℕ) (end : ℕ) → 0 < end → end ≤ length text → take end text ≡ take (end - 1) text ++ get_or text (end - 1) 0 ∷ []
last-of text end some within =
    let below : end - 1 < length text = omega arith in
    let same : end - 1 + 1 ≡ end = omega arith in
    ap (λ (n : ℕ). take n text) (sym same) ∙ take_more text (end - 1) 0 below

pub trim-more : (text : List ℕ) (end : ℕ) → 0 < end → end ≤ length text → get_or text (end - 1) 0 ≡ 32 → trimmed (take end text) ≡ trimmed text → trimmed (take (end - 1) text) ≡ trimmed text
trim-more text end some within space so =
    sym (trimmed-space (take (end - 1) text))
    ∙ (ap (λ (c : ℕ). trimmed (take (end - 1) text ++ c ∷ [])) (sym space) ∙ (ap trimmed (sym (last-of text end some within)) ∙ so))

pub trim-end : (text : List ℕ) (end : ℕ) → 0 < end → end ≤ length text → (get_or text (end - 1) 0 ≡ 32 → ⊥) → trimmed (take end text) ≡ trimmed text → take end text ≡ trimmed text
trim-end text end some within other so =
    let test : is_space (get_or text (end - 1) 0) ≡ false = grind (arith, nat_tests) in
    last-of text end some within ∙ (sym (trimmed-kept (take (end - 1) text) (get_or text (end - 1) 0) test)
    ∙ (ap trimmed (sym (last-of text end some within)) ∙ so))

pub trimmed-none : trimmed [] ≡ []
unfolding trimmed
trimmed-none = refl

-- ---- lines

pub dump-more : (text rest : List ℕ) (kept : Kept) (so_far all : List ℕ) → IsFirstLine text kept rest → so_far ++ dump_lines (lines text) ≡ all → (so_far ++ dump_line kept) ++ dump_lines (lines rest) ≡ all
unfolding dump_lines
dump-more text rest kept so_far all first so =
    append_assoc so_far (dump_line kept) (dump_lines (lines rest))
    ∙ (ap (λ (k : Kept). so_far ++ (dump_line k ++ dump_lines (lines rest))) first.is_kept
    ∙ (ap (λ (l : List (List ℕ)). so_far ++ dump_lines l) (sym first.lines_are) ∙ so))

pub dump-none : (so_far all text : List ℕ) → length text ≡ 0 → so_far ++ dump_lines (lines text) ≡ all → so_far ≡ all
unfolding dump_lines
dump-none so_far all [] none so = sym (append-nil so_far) ∙ so
dump-none so_far all (byte ∷ text) none so = absurd (omega (arith, none))

-- ---- tapes

abbrev with_text : Result (List ℕ) FileTrouble → Result (List ℕ) FileTrouble
with_text read = result_map_both written_tape (λ trouble. trouble) read

-- a tape that is not too long is kept whole
pub short-kept : (tape : List ℕ) → length tape ≤ tape_limit → within_limit tape ≡ Ok tape
short-kept tape short =
    let test : nat_lt tape_limit (length tape) ≡ false = grind (arith, nat_tests) in
    ap (λ long. cond long (Err troubles.LongTape) (Ok tape)) test

pub read-short : (read : Result (List ℕ) ℕ) (tape text : List ℕ) → read ≡ Ok tape → length tape ≤ tape_limit → tape_in read text ≡ Ok tape
unfolding tape_in
read-short read tape text is short = ap (λ (it : Result (List ℕ) ℕ). tape_in it text) is ∙ short-kept tape short

pub tape-ok : (read : Result (List ℕ) ℕ) (tape text : List ℕ) → read ≡ Ok tape → length tape ≤ tape_limit → Ok (written_tape tape) ≡ result_map_both written_tape (λ trouble. trouble) (tape_in read text)
tape-ok read tape text is short = sym (ap (λ (it : Result (List ℕ) FileTrouble). with_text it) (read-short read tape text is short))

pub tape-bad : (read : Result (List ℕ) ℕ) (place : ℕ) (text : List ℕ) → read ≡ Err place
    → Err (troubles.BadSign place (count_by is_line_feed (take place text) + 1)) ≡ result_map_both written_tape (λ trouble. trouble) (tape_in read text)
unfolding tape_in
tape-bad read place text is = sym (ap (λ (it : Result (List ℕ) ℕ). with_text (tape_in it text)) is)

pub tape-long : (read : Result (List ℕ) ℕ) (text : List ℕ) → IsOkAnd read (λ tape. tape_limit < length tape) → Err troubles.LongTape ≡ result_map_both written_tape (λ trouble. trouble) (tape_in read text)
unfolding tape_in
tape-long (Ok tape) text long =
    let test : nat_lt tape_limit (length tape) ≡ true = grind (arith, nat_tests) in
    sym (ap (λ (it : Bool). with_text (cond it (Err troubles.LongTape) (Ok tape))) test)
tape-long (Err place) text long = absurd long

pub ruleset tapes = (tape-ok, tape-bad, tape-long)

-- ---- bytes

pub no-fault : {T E : Type 0} (result : Result T E) (value : T) (fault : E) → result ≡ Ok value → result ≡ Err fault → ⊥
no-fault result value fault one other = cc (one, other)

none-of : (found : Option ℕ) → ((place : ℕ) → found ≡ Some place → ⊥) → found ≡ None
none-of None none = refl
none-of (Some place) none = absurd (none place refl)

pub bytes-ok : (bytes : List ℕ) → ((place : ℕ) → first_no_code bytes ≡ Some place → ⊥) → length bytes ≤ tape_limit → Ok (written_tape bytes) ≡ result_map_both written_tape (λ trouble. trouble) (coded bytes)
unfolding coded
bytes-ok bytes none short =
    sym (ap (λ (it : Option ℕ). with_text (option_map_or (λ place. Err (troubles.NoCode place)) it (within_limit bytes))) (none-of (first_no_code bytes) none)
    ∙ ap (λ (it : Result (List ℕ) FileTrouble). with_text it) (short-kept bytes short))

pub bytes-bad : (bytes : List ℕ) (place : ℕ) → first_no_code bytes ≡ Some place → Err (troubles.NoCode place) ≡ result_map_both written_tape (λ trouble. trouble) (coded bytes)
unfolding coded
bytes-bad bytes place is =
    sym (ap (λ (it : Option ℕ). with_text (option_map_or (λ place. Err (troubles.NoCode place)) it (within_limit bytes))) is)

pub bytes-long : (bytes : List ℕ) → first_no_code bytes ≡ None → tape_limit < length bytes → Err troubles.LongTape ≡ result_map_both written_tape (λ trouble. trouble) (coded bytes)
unfolding coded
bytes-long bytes none long =
    let test : nat_lt tape_limit (length bytes) ≡ true = grind (arith, nat_tests) in
    sym (ap (λ (it : Option ℕ). with_text (option_map_or (λ place. Err (troubles.NoCode place)) it (within_limit bytes))) none
    ∙ ap (λ (it : Bool). with_text (cond it (Err troubles.LongTape) (Ok bytes))) test)

pub ruleset bytes = (bytes-ok, bytes-bad, bytes-long)

-- ---- texts of SIMH's

same-fault : {T : Type 0} (result : Result T ExaminedFault) (fault it : ExaminedFault) → result ≡ Err fault → result ≡ Err it → it ≡ fault
same-fault result fault it one other = cc (one, other)

module _ {T : Type 0} (text : List ℕ) (result : Result T ExaminedFault) (faulty : IfSome (first_fault text) (λ fault. IsErrOf result fault)) where
  -- a fault that is not memory's is its first
  pub simh-fault : (fault : ExaminedFault) → result ≡ Err fault → IfNone (first_fault text) (IfErr result (λ it. it ≡ Memory)) → (fault ≡ Memory → ⊥) → first_fault text ≡ Some fault
  simh-fault fault is faultless other = by_fault (first_fault text) faulty faultless where
    by_fault : (found : Option ExaminedFault) → IfSome found (λ it. IsErrOf result it) → IfNone found (IfErr result (λ it. it ≡ Memory)) → found ≡ Some fault
    by_fault None so none = absurd (other (subst (λ (r : Result T ExaminedFault). IfErr r (λ it. it ≡ Memory)) is none))
    by_fault (Some it) so none = ap Some (same-fault result fault it is so)

pub simh-dump : (text : List ℕ) → first_fault text ≡ None → Ok (dump_of (words_of text)) ≡ simh_dump text
unfolding simh_dump
simh-dump text none = sym (ap (λ (it : Option ExaminedFault). option_map_or (λ fault. Err (examined_trouble fault)) it (Ok (dump_of (words_of text)))) none)

pub simh-refused : (text : List ℕ) (fault : ExaminedFault) → first_fault text ≡ Some fault → Err (examined_trouble fault) ≡ simh_dump text
unfolding simh_dump
simh-refused text fault is = sym (ap (λ (it : Option ExaminedFault). option_map_or (λ fault. Err (examined_trouble fault)) it (Ok (dump_of (words_of text)))) is)

pub ruleset simh = (simh-dump, simh-refused)

-- A text of JSON is taken to pieces where it was put together.
use Rattle.std.proofs.Common.{◌≡◌, ℕ, zero, suc, ◌-◌, ◌/◌, ◌%◌, ◌<◌, ◌==◌, ◌&&◌, ◌||◌, Bool, true, false, cond, nat_lt, nat_le, List, [], ◌∷◌, ◌++◌, ap, append_assoc, ◌∙◌, sym, arith, refl, codes, map, length, take, subst}
use Rattle.std.specs.List.{list_all}
use Rattle.std.specs.Fmt.{decimal, digits, digits_onto, digit_glyph}
use Rattle.std.proofs.lemmas.Bool.Decides.{nat_tests}
use Rattle.std.proofs.Math.Seq.{take-append_seam}
use Rattle.std.proofs.lemmas.List.{append-nil, length-append}
use Rattle.lgp_fields.specs.Escaped.{escaped, escaped_byte, hex_digit, is_itself}
use Rattle.lgp_fields.specs.Plain.{Plain, PlainField, Nothing, Number, Signed, YesNo, Numbers, Text}
use Rattle.lgp_fields.specs.Printed.{field_json, fields_json, number_json, numbers_text, record_json, separated, signed_text, value_json}
use Rattle.lgp_fields.specs.ReadBack.{unescaped_at}
use Rattle.lgp_fields.proofs.ReadBackLaws.{split}
use Rattle.lgp_fields.specs.Pieces.{in_first, inside, pieces_at}

-- a text in front of the first piece
prepend : List ℕ → List (List ℕ) → List (List ℕ)
prepend [] ps = ps
prepend (b ∷ t) ps = in_first b (prepend t ps)

prepend_append : (t u : List ℕ) (ps : List (List ℕ)) → prepend (t ++ u) ps ≡ prepend t (prepend u ps)
unfolding prepend
prepend_append [] u ps = refl
prepend_append (b ∷ t) u ps = ap (λ (q : List (List ℕ)). in_first b q) (prepend_append t u ps)

prepend_first : (t p : List ℕ) (ps : List (List ℕ)) → prepend t (p ∷ ps) ≡ (t ++ p) ∷ ps
unfolding in_first prepend
prepend_first [] p ps = refl
prepend_first (b ∷ t) p ps = ap (λ (q : List (List ℕ)). in_first b q) (prepend_first t p ps)

-- a digit, a minus sign or a small letter
abbrev pub is_plain : ℕ → Bool
is_plain b = (b == 45) || ((nat_le 48 b && nat_le b 57) || (nat_le 97 b && nat_le b 122))

-- a text whose bytes all come in the first piece, with what stands after it, at a place and a depth
abbrev Whole : ℕ → ℕ → ℕ → List ℕ → Type 0
Whole sep place d t = (rest : List ℕ) → pieces_at sep place d (t ++ rest) ≡ prepend t (pieces_at sep place d rest)

joined : (sep place d : ℕ) (t u : List ℕ) → Whole sep place d t → Whole sep place d u → Whole sep place d (t ++ u)
joined sep place d t u first second rest =
    ap (λ (l : List ℕ). pieces_at sep place d l) (append_assoc t u rest)
    ∙ first (u ++ rest) ∙ ap (prepend t) (second rest) ∙ sym (prepend_append t u (pieces_at sep place d rest))

empty : (sep place d : ℕ) → Whole sep place d []
unfolding prepend
empty sep place d rest = refl

-- ---- in a string

in_string_step : (sep d b : ℕ) → (b == 34) ≡ false → (b == 92) ≡ false → Whole sep 1 d (b ∷ [])
unfolding pieces_at prepend
in_string_step sep d b quote slash rest = rw (quote, slash) refl

after_slash : (sep d b : ℕ) → Whole sep 1 d (92 ∷ b ∷ [])
unfolding pieces_at prepend
after_slash sep d b rest = refl

hex_in_string : (sep d v : ℕ) → Whole sep 1 d (hex_digit v ∷ [])
hex_in_string sep d v = in_string_step sep d (hex_digit v) (grind (arith, nat_tests)) (grind (arith, nat_tests))

by_tests : (sep d c : ℕ) (itself quoted : Bool) → is_itself c ≡ itself
    → Whole sep 1 d (cond itself (c ∷ []) (cond quoted (92 ∷ c ∷ []) (92 ∷ 117 ∷ 48 ∷ 48 ∷ hex_digit (c / 16) ∷ hex_digit (c % 16) ∷ [])))
by_tests sep d c true quoted is = in_string_step sep d c (grind (arith, nat_tests)) (grind (arith, nat_tests))
by_tests sep d c false true is = after_slash sep d c
by_tests sep d c false false is =
    joined sep 1 d (92 ∷ 117 ∷ []) _ (after_slash sep d 117)
    (joined sep 1 d (48 ∷ []) _ (in_string_step sep d 48 refl refl)
    (joined sep 1 d (48 ∷ []) _ (in_string_step sep d 48 refl refl)
    (joined sep 1 d (hex_digit (c / 16) ∷ []) _ (hex_in_string sep d (c / 16)) (hex_in_string sep d (c % 16)))))

byte_in_string : (sep d c : ℕ) → Whole sep 1 d (escaped_byte c)
unfolding escaped_byte
byte_in_string sep d c = by_tests sep d c (is_itself c) ((c == 34) || (c == 92)) refl

escaped_in_string : (sep d : ℕ) (t : List ℕ) → Whole sep 1 d (escaped t)
unfolding escaped
escaped_in_string sep d [] = empty sep 1 d
escaped_in_string sep d (c ∷ more) = joined sep 1 d (escaped_byte c) (escaped more) (byte_in_string sep d c) (escaped_in_string sep d more)

plain_in_string : (sep d : ℕ) (t : List ℕ) → list_all is_plain t ≡ true → Whole sep 1 d t
plain_in_string sep d [] all = empty sep 1 d
plain_in_string sep d (b ∷ more) all =
    let both = split (is_plain b) (list_all is_plain more) all in
    joined sep 1 d (b ∷ []) more (in_string_step sep d b (grind (arith, nat_tests, both.0)) (grind (arith, nat_tests, both.0))) (plain_in_string sep d more both.1)

-- the bytes of a string that has nothing to escape
pub plain_back : (t rest : List ℕ) → list_all is_plain t ≡ true → unescaped_at 0 0 (t ++ 34 ∷ rest) ≡ t
unfolding unescaped_at
plain_back [] rest all = refl
plain_back (b ∷ more) rest all =
    let both = split (is_plain b) (list_all is_plain more) all in
    let mark : (b == 34) ≡ false = grind (arith, nat_tests, both.0) in
    let slash : (b == 92) ≡ false = grind (arith, nat_tests, both.0) in
    rw (mark, slash) (ap (λ (l : List ℕ). b ∷ l) (plain_back more rest both.1))

-- ---- digits

glyph_is_plain : (v : ℕ) → v < 10 → is_plain (digit_glyph false v) ≡ true
glyph_is_plain v below = grind (arith, nat_tests)

onto_is_plain : (k n : ℕ) (acc : List ℕ) → list_all is_plain acc ≡ true → list_all is_plain (digits_onto k 10 false n acc) ≡ true
onto_is_plain zero n acc all = all
onto_is_plain (suc k) n acc all =
    let first : is_plain (digit_glyph false (n % 10)) ≡ true = glyph_is_plain (n % 10) (omega arith) in
    let both : list_all is_plain (digit_glyph false (n % 10) ∷ acc) ≡ true = rw (first, all) refl in
    by (n / 10 == 0) both (onto_is_plain k (n / 10) (digit_glyph false (n % 10) ∷ acc) both)
  where
    by : (t : Bool) → list_all is_plain (digit_glyph false (n % 10) ∷ acc) ≡ true
        → list_all is_plain (digits_onto k 10 false (n / 10) (digit_glyph false (n % 10) ∷ acc)) ≡ true
        → list_all is_plain (cond t (digit_glyph false (n % 10) ∷ acc) (digits_onto k 10 false (n / 10) (digit_glyph false (n % 10) ∷ acc))) ≡ true
    by true one other = one
    by false one other = other

pub decimal_is_plain : (n : ℕ) → list_all is_plain (decimal n) ≡ true
unfolding digits
decimal_is_plain n = onto_is_plain 64 n [] refl

-- ---- outside of strings

module _ (sep : ℕ) (quote : (34 == sep) ≡ false) (opens : (91 == sep) ≡ false) (closes : (93 == sep) ≡ false)
    (apart : (b : ℕ) → is_plain b ≡ true → (b == sep) ≡ false) where
  plain_step : (d b : ℕ) → is_plain b ≡ true → Whole sep 0 d (b ∷ [])
  unfolding pieces_at prepend
  plain_step d b plain rest =
      let other : (b == sep) ≡ false = apart b plain in
      let mark : (b == 34) ≡ false = grind (arith, nat_tests, plain) in
      let one : (b == 91) ≡ false = grind (arith, nat_tests, plain) in
      let two : (b == 123) ≡ false = grind (arith, nat_tests, plain) in
      let three : (b == 93) ≡ false = grind (arith, nat_tests, plain) in
      let four : (b == 125) ≡ false = grind (arith, nat_tests, plain) in
      rw (other, mark, one, two, three, four) refl

  plain_text : (d : ℕ) (t : List ℕ) → list_all is_plain t ≡ true → Whole sep 0 d t
  plain_text d [] all = empty sep 0 d
  plain_text d (b ∷ more) all =
      let both = split (is_plain b) (list_all is_plain more) all in
      joined sep 0 d (b ∷ []) more (plain_step d b both.0) (plain_text d more both.1)

  string : (d : ℕ) (t : List ℕ) → Whole sep 1 d t → Whole sep 0 d (34 ∷ (t ++ 34 ∷ []))
  unfolding pieces_at prepend
  string d t inner rest = rw quote
      (ap (in_first 34) (ap (λ (l : List ℕ). pieces_at sep 1 d l) (append_assoc t (34 ∷ []) rest)
      ∙ inner (34 ∷ rest) ∙ sym (prepend_append t (34 ∷ []) (pieces_at sep 0 d rest))))

  number : (d n : ℕ) → Whole sep 0 d (number_json n)
  unfolding number_json
  number d n = by (nat_lt n 9007199254740992)
    where
      by : (t : Bool) → Whole sep 0 d (cond t (decimal n) (34 ∷ (decimal n ++ 34 ∷ [])))
      by true = plain_text d (decimal n) (decimal_is_plain n)
      by false = string d (decimal n) (plain_in_string sep d (decimal n) (decimal_is_plain n))

  -- a comma in brackets
  comma : (first : Bool) → Whole sep 0 1 (separated first (44 ∷ []))
  unfolding pieces_at prepend
  comma true rest = refl
  comma false rest = by (44 == sep)
    where
      by : (t : Bool) → cond (t && false) ([] ∷ pieces_at sep 0 0 rest) (in_first 44 (pieces_at sep 0 1 rest)) ≡ in_first 44 (pieces_at sep 0 1 rest)
      by true = refl
      by false = refl

  numbers_text_whole : (first : Bool) (ns : List ℕ) → Whole sep 0 1 (numbers_text number_json (44 ∷ []) first ns)
  unfolding numbers_text
  numbers_text_whole first [] = empty sep 0 1
  numbers_text_whole first (n ∷ more) = joined sep 0 1 (separated first (44 ∷ [])) _ (comma first)
      (joined sep 0 1 (number_json n) _ (number 1 n) (numbers_text_whole false more))

  list_end : (rest : List ℕ) → pieces_at sep 0 1 (93 ∷ rest) ≡ in_first 93 (pieces_at sep 0 0 rest)
  unfolding pieces_at
  list_end rest = rw closes refl

  list : (ns : List ℕ) → Whole sep 0 0 (91 ∷ (numbers_text number_json (44 ∷ []) true ns ++ 93 ∷ []))
  unfolding pieces_at prepend
  list ns rest = rw opens
      (ap (in_first 91) (ap (λ (l : List ℕ). pieces_at sep 0 1 l) (append_assoc (numbers_text number_json (44 ∷ []) true ns) (93 ∷ []) rest)
      ∙ numbers_text_whole true ns (93 ∷ rest) ∙ ap (prepend (numbers_text number_json (44 ∷ []) true ns)) (list_end rest)
      ∙ sym (prepend_append (numbers_text number_json (44 ∷ []) true ns) (93 ∷ []) (pieces_at sep 0 0 rest))))

  value : (v : Plain) → Whole sep 0 0 (value_json v)
  unfolding value_json signed_text
  value Nothing = plain_text 0 (codes "null") refl
  value (Number n) = number 0 n
  value (Signed true n) = joined sep 0 0 (45 ∷ []) (decimal n) (plain_step 0 45 refl) (plain_text 0 (decimal n) (decimal_is_plain n))
  value (Signed false n) = plain_text 0 (decimal n) (decimal_is_plain n)
  value (YesNo true) = plain_text 0 (codes "true") refl
  value (YesNo false) = plain_text 0 (codes "false") refl
  value (Numbers ns) = list ns
  value (Text t) = string 0 (escaped t) (escaped_in_string sep 0 t)

comma_apart : (b : ℕ) → is_plain b ≡ true → (b == 44) ≡ false
comma_apart b plain = grind (arith, nat_tests, plain)

colon_apart : (b : ℕ) → is_plain b ≡ true → (b == 58) ≡ false
colon_apart b plain = grind (arith, nat_tests, plain)

-- ---- whole texts

last : (sep : ℕ) (t : List ℕ) → Whole sep 0 0 t → pieces_at sep 0 0 t ≡ t ∷ []
unfolding pieces_at
last sep t whole =
    ap (λ (l : List ℕ). pieces_at sep 0 0 l) (sym (append-nil t)) ∙ whole [] ∙ prepend_first t [] [] ∙ ap (λ (l : List ℕ). l ∷ []) (append-nil t)

before_comma : (t rest : List ℕ) → Whole 44 0 0 t → pieces_at 44 0 0 (t ++ 44 ∷ rest) ≡ t ∷ pieces_at 44 0 0 rest
unfolding pieces_at
before_comma t rest whole =
    whole (44 ∷ rest) ∙ prepend_first t [] (pieces_at 44 0 0 rest) ∙ ap (λ (l : List ℕ). l ∷ pieces_at 44 0 0 rest) (append-nil t)

before_colon : (t rest : List ℕ) → Whole 58 0 0 t → pieces_at 58 0 0 (t ++ 58 ∷ rest) ≡ t ∷ pieces_at 58 0 0 rest
unfolding pieces_at
before_colon t rest whole =
    whole (58 ∷ rest) ∙ prepend_first t [] (pieces_at 58 0 0 rest) ∙ ap (λ (l : List ℕ). l ∷ pieces_at 58 0 0 rest) (append-nil t)

inside_back : (a b : ℕ) (t : List ℕ) → inside (a ∷ (t ++ b ∷ [])) ≡ t
inside_back a b t =
    ap (λ (n : ℕ). take n (t ++ b ∷ [])) {x = length (a ∷ (t ++ b ∷ [])) - 2} {y = length t} (omega (arith, length-append t (b ∷ [])))
    ∙ take-append_seam t (b ∷ [])

numbers_of : (n : ℕ) (more : List ℕ) → pieces_at 44 0 0 (numbers_text number_json (44 ∷ []) true (n ∷ more)) ≡ map number_json (n ∷ more)
unfolding numbers_text
numbers_of n [] = ap (λ (l : List ℕ). pieces_at 44 0 0 l) (append-nil (number_json n)) ∙ last 44 (number_json n) (number 44 refl refl refl comma_apart 0 n)
numbers_of n (m ∷ more) =
    before_comma (number_json n) (numbers_text number_json (44 ∷ []) true (m ∷ more)) (number 44 refl refl refl comma_apart 0 n)
    ∙ ap (λ (l : List (List ℕ)). number_json n ∷ l) (numbers_of m more)

pub numbers_back : (n : ℕ) (more : List ℕ) → pieces_at 44 0 0 (inside (value_json (Numbers (n ∷ more)))) ≡ map number_json (n ∷ more)
unfolding value_json
numbers_back n more =
    ap (λ (l : List ℕ). pieces_at 44 0 0 l) (inside_back 91 93 (numbers_text number_json (44 ∷ []) true (n ∷ more))) ∙ numbers_of n more

-- a field, with the quotation mark that ends its key beside the key
field_parts : (field : PlainField) → field_json field ≡ value_json (Text field.key) ++ 58 ∷ value_json field.value
unfolding field_json value_json
field_parts field = ap (λ (l : List ℕ). 34 ∷ l) (sym (append_assoc (escaped field.key) (34 ∷ []) (58 ∷ value_json field.value)))

colon_whole : Whole 44 0 0 (58 ∷ [])
unfolding pieces_at prepend
colon_whole rest = refl

field_whole : (field : PlainField) → Whole 44 0 0 (field_json field)
field_whole field = subst (λ (l : List ℕ). Whole 44 0 0 l) (sym (field_parts field))
    (joined 44 0 0 (value_json (Text field.key)) (58 ∷ value_json field.value) (value 44 refl refl refl comma_apart (Text field.key))
    (joined 44 0 0 (58 ∷ []) (value_json field.value) colon_whole (value 44 refl refl refl comma_apart field.value)))

pub field_back : (field : PlainField) → pieces_at 58 0 0 (field_json field) ≡ value_json (Text field.key) ∷ value_json field.value ∷ []
field_back field =
    ap (λ (l : List ℕ). pieces_at 58 0 0 l) (field_parts field)
    ∙ before_colon (value_json (Text field.key)) (value_json field.value) (value 58 refl refl refl colon_apart (Text field.key))
    ∙ ap (λ (l : List (List ℕ)). value_json (Text field.key) ∷ l) (last 58 (value_json field.value) (value 58 refl refl refl colon_apart field.value))

fields_of : (field : PlainField) (more : List PlainField) → pieces_at 44 0 0 (fields_json true (field ∷ more)) ≡ map field_json (field ∷ more)
unfolding fields_json
fields_of field [] = ap (λ (l : List ℕ). pieces_at 44 0 0 l) (append-nil (field_json field)) ∙ last 44 (field_json field) (field_whole field)
fields_of field (other ∷ more) =
    before_comma (field_json field) (fields_json true (other ∷ more)) (field_whole field)
    ∙ ap (λ (l : List (List ℕ)). field_json field ∷ l) (fields_of other more)

pub object_back : (field : PlainField) (more : List PlainField) → pieces_at 44 0 0 (inside (record_json (field ∷ more))) ≡ map field_json (field ∷ more)
unfolding record_json
object_back field more =
    ap (λ (l : List ℕ). pieces_at 44 0 0 l) (inside_back 123 125 (fields_json true (field ∷ more))) ∙ fields_of field more

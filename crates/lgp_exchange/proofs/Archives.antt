-- A tape written as an archive has it reads back.
use Rattle.std.proofs.Common.{◌≡◌, ℕ, ◌+◌, ◌/◌, ◌%◌, ◌<◌, ◌^◌, Bool, true, false, not, ◌&&◌, eqb, ltb, List, [], ◌∷◌, ◌++◌, length, Option, Some, None, Ok, refl, ap, ◌∙◌, arith}
use Rattle.std.specs.List.{All}
use Rattle.std.proofs.lemmas.Bool.{and_parts, ltb-true, not-true}
use Rattle.std.specs.Option.{option_map}
use Rattle.std.proofs.lemmas.List.Elements.{All-head, All-tail}
use Rattle.lgp_flexo.specs.Code.{IsCode, sign_at, code_at}
use Rattle.lgp_flexo.specs.Archive.{archived_from, code_of_archived, codes_of_archive, codes_of_archived}
use Rattle.lgp_flexo.specs.TapeText.{before, code_of_group, joined, single}
use Rattle.lgp_flexo.proofs.Writing.{all_below, all_below-at, all_groups_read_back, found-code, group_reads_back, is_piece}
use Rattle.lgp_word.specs.Decimal.{decimal_digit}
use Rattle.lgp_exchange.specs.ArchiveText.{archive_byte, archived_code, archived_tape, byte_or_group}

-- a sign is a byte
abbrev is_small : Option ℕ → Bool
is_small (Some sign) = ltb sign 256
is_small None = true

all_small : all_below (λ code. is_small (sign_at code)) 64 ≡ true
unfolding sign_at
all_small = refl

small-sign : (sign : ℕ) (found : Option ℕ) → is_small found ≡ true → Some sign ≡ found → sign < 2 ^ 8
small-sign sign None h e = cc
small-sign sign (Some same) h e =
    let is : sign ≡ same = cc (e) in
    let below = ltb-true same 256 h in
    omega (arith, is, below)

pub sign-small : (code sign : ℕ) → IsCode code → Some sign ≡ sign_at code → sign < 2 ^ 8
sign-small code sign is_code e =
    small-sign sign (sign_at code) (all_below-at (λ c. is_small (sign_at c)) 64 code all_small (omega arith)) e

-- a byte that is read as this code by itself
abbrev reads_back : ℕ → Option ℕ → Bool
reads_back code (Some sign) = not (eqb sign 33) && not (eqb sign 10) && is_piece code (code_of_archived sign)
reads_back code None = true

all_read_back : all_below (λ code. reads_back code (archive_byte code)) 64 ≡ true
unfolding sign_at code_at
all_read_back = refl

-- a byte that is not ! is a piece by itself
archived_from-sign : (place sign : ℕ) (following : List ℕ) → eqb sign 33 ≡ false
    → archived_from place (sign ∷ following) ≡ joined place (codes_of_archived sign) (archived_from (place + 1) following)
unfolding archived_from
archived_from-sign place sign [] no_group = refl
archived_from-sign place sign (a ∷ []) no_group = refl
archived_from-sign place sign (a ∷ b ∷ rest) no_group = rw no_group refl

codes_of_archived-byte : (code sign : ℕ) → eqb sign 10 ≡ false → is_piece code (code_of_archived sign) ≡ true → codes_of_archived sign ≡ Some (code ∷ [])
codes_of_archived-byte code sign no_feed one = rw no_feed (ap (option_map single) (found-code code (code_of_archived sign) one))

-- one code in front of what follows, wherever that is read from
piece-read : (code place : ℕ) (sign : Option ℕ) (following : List ℕ) → code < 64 → reads_back code sign ≡ true
    → archived_from place (byte_or_group sign code ++ following) ≡ before (code ∷ []) (archived_from (place + length (byte_or_group sign code)) following)
unfolding archived_from
piece-read code place (Some sign) following small h =
    let parts = and_parts (not (eqb sign 33) && not (eqb sign 10)) (is_piece code (code_of_archived sign)) h in
    let tests = and_parts (not (eqb sign 33)) (not (eqb sign 10)) parts.0 in
    archived_from-sign place sign following (not-true (eqb sign 33) tests.0)
    ∙ ap (λ p. joined place p (archived_from (place + 1) following)) (codes_of_archived-byte code sign (not-true (eqb sign 10) tests.1) parts.1)
piece-read code place None following small h =
    ap (λ p. joined place (option_map single p) (archived_from (place + 3) following))
    (found-code code (code_of_group (decimal_digit (code / 10)) (decimal_digit (code % 10))) (all_below-at group_reads_back 64 code all_groups_read_back small))

tape-read : (tape : List ℕ) (place : ℕ) → All IsCode tape → archived_from place (archived_tape tape) ≡ Ok tape
unfolding archived_from
tape-read [] place all = refl
tape-read (code ∷ tape) place all =
    let is_code : IsCode code = All-head IsCode code tape all in
    let small : code < 64 = omega arith in
    piece-read code place (archive_byte code) (archived_tape tape) small (all_below-at (λ c. reads_back c (archive_byte c)) 64 code all_read_back small)
    ∙ ap (before (code ∷ [])) (tape-read tape (place + length (archived_code code)) (All-tail IsCode code tape all))

pub archive_reads_back : (tape : List ℕ) → All IsCode tape → codes_of_archive (archived_tape tape) ≡ Ok tape
archive_reads_back tape all = tape-read tape 0 all

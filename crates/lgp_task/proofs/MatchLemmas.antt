-- What the getters of the matches give, in the words of the definitions.
use Rattle.std.proofs.Common.{◌≡◌, ℕ, Bool, true, false, List, [], Option, None, Some, refl, arith, option_map, unwrap_or}
use Rattle.std.specs.Prelude.{Result, Ok, Err, if◌then◌else◌, map}
use Rattle.std.specs.Borrow.{Bor}
use Rattle.std.specs.Option.{option_map_or}
use Rattle.std.specs.Str.Parse.{ParsesUnsigned}
use Rattle.clap.specs.ValueTests.{is_unsigned_in}
use Rattle.clap.specs.Words.{ReadsOne, Text}
use Rattle.clap.proofs.ValueTestLemmas.{Accepts-accepts, accepts-Accepts}
use Rattle.clap.specs.declared.builder.value_parser.ValueParser.TheVariants.{Unsigned}
use Rattle.lgp_task.specs.Task.{number_of}

-- a text, or another one where there is none
pub unwrap_or-now : (found : Option (Bor Text)) (other : Bor Text) (o : Option Text)
    → option_map (λ (s : Bor Text). s.now) found ≡ o → (unwrap_or found other).now ≡ unwrap_or o other.now
unwrap_or-now None other o e = rw (← e) refl
unwrap_or-now (Some s) other o e = rw (← e) refl

-- the same of several texts
pub unwrap_or-texts : (found : Option (Bor (List (Bor Text)))) (other : Bor (List (Bor Text))) (o : Option (List Text))
    → option_map (λ (s : Bor (List (Bor Text))). map (λ (v : Bor Text). v.now) s.now) found ≡ o → other.now ≡ []
    → map (λ (v : Bor Text). v.now) (unwrap_or found other).now ≡ unwrap_or o []
unwrap_or-texts None other o e none = rw (← e, none) refl
unwrap_or-texts (Some s) other o e none = rw (← e) refl

-- what a text of digits stands for, by whether it is one
number_by : (test : Bool) (n value : ℕ) → ((test ≡ true) → n ≡ value) → ((test ≡ false) → n ≡ 0) → n ≡ (if test then value else 0)
number_by true n value holds fails = holds refl
number_by false n value holds fails = fails refl

-- no text is both of digits and not
not_both : (test : Bool) → test ≡ true → test ≡ false → ⊥
not_both true t f = cc
not_both false t f = cc

module _ {E : Type 0} (gives : Text → Result ℕ E → Type 0)
    (parses : (text : Text) (r : Result ℕ E) → gives text r → ParsesUnsigned 64 10 text r) where
  -- a number that `parse` reads, or 0
  pub number-read : (text : Text) (found : Option ℕ) → ReadsOne gives text found → unwrap_or found 0 ≡ number_of text
  number-read text (Some n) reads =
      let parsed = parses text (Ok n) reads in
      let accepted : is_unsigned_in 0 18446744073709551615 text ≡ true =
      Accepts-accepts false (Unsigned 0 18446744073709551615) text (parsed.0.0, parsed.0.1, omega arith, omega arith) in
      number_by _ n _ (λ _. parsed.1)
      (λ refused. absurd (not_both _ accepted refused))
  number-read text None reads =
      let fails = parses text (Err reads.0) reads.1 in
      number_by _ 0 _
      (λ accepted. let read = accepts-Accepts false (Unsigned 0 18446744073709551615) text accepted in absurd (fails (read.0, read.1)))
      (λ _. refl)

  -- the number of a text that may not be there
  pub limit-read : (o : Option Text) (found : Option ℕ) → (o ≡ None → found ≡ None)
      → ((text : Text) → o ≡ Some text → ReadsOne gives text found) → unwrap_or found 0 ≡ option_map_or number_of o 0
  limit-read None found none some = rw (none refl) refl
  limit-read (Some text) found none some = number-read text found (some text refl)

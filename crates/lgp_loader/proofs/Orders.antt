-- One order at a time, in a core that goes in Normal with 6 BIT INPUT up. The places are variables, and so are the words where they
-- are not known.
use Rattle.std.proofs.Common.{◌≡◌, ℕ, ◌||◌, Bool, true, false, cond, refl, sym, ap, ◌∙◌, subst, arith, List, [], ◌∷◌, ◌++◌, None, Option, filter, slice_index, slice_set, append-nil}
use Rattle.std.specs.List.{list_any}
use Rattle.std.proofs.lemmas.Bool.Decides.{nat_tests}
use Rattle.std.proofs.lemmas.Bool.{or_parts}
use Rattle.std.proofs.lemmas.List.Elements.{filter-append}
use Rattle.lgp_word.specs.Address.{address_after}
use Rattle.lgp_word.specs.Order.{address_at, op_at, sign_of}
use Rattle.lgp_word.specs.Word.{IsWord, stored}
use Rattle.lgp_word.specs.declared.order.Op.{Op}
use Rattle.lgp_word.specs.declared.order.Op.TheVariants.{Z, I, P, U, T, H, C}
use Rattle.lgp_flexo.specs.Code.{is_stop, stop_code}
use Rattle.lgp_flexo.specs.Input.{accumulator_after_all, enters, left_after, met_stop, passed_codes}
use Rattle.lgp_flexo.specs.Tape.{Tape}
use Rattle.lgp_flexo.specs.WordCodes.{word_codes}
use Rattle.lgp_flexo.proofs.WordCodes.{word_keyed}
use Rattle.lgp_table.specs.State.{Core, core_of}
use Rattle.lgp_table.specs.Rows.{passes_stop, row}
use Rattle.lgp_table.specs.Activity.{after_order, begun_order, core_after, print_of, with_status}
use Rattle.lgp_table.specs.Console.{is_at_rest}
use Rattle.lgp_table.specs.SwitchPresses.{looks, order_looks}
use Rattle.lgp_table.specs.declared.panel.Mode.TheVariants.{Normal}
use Rattle.lgp_table.specs.declared.panel.Panel.{Panel}
use Rattle.lgp_table.specs.declared.panel.Status.TheVariants.{Going, Halted}
use Rattle.lgp_table.specs.declared.panel.Cause.TheVariants.{Stop}
use Rattle.lgp_table.specs.declared.panel.Ending.TheVariants.{Plain, Stopped, Unfinished}
use Rattle.lgp_table.specs.declared.panel.Switches.{Switches}

-- the panel of a program that goes
abbrev pub going : Switches → ℕ → ℕ → ℕ → Panel
going switches counter accumulator register = record {
  counter = counter;
  accumulator = accumulator;
  register = register;
  status = Going;
  mode = Normal;
  switches = record switches { six_bit = false };
}

abbrev pub off : List ℕ → List ℕ → Tape
off passed left = record { on = false; passed = passed; left = left }

abbrev pub on : List ℕ → List ℕ → Tape
on passed left = record { on = true; passed = passed; left = left }

-- an activity of such a program: the machine is not at rest, prints nothing and looks at no switch but 6 BIT INPUT
pub record IsCalm (core : Core) : Type 0 where
  pub works : is_at_rest core.panel.status ≡ false
  pub silent : print_of core ≡ None
  pub blind : looks (begun_order core) ≡ false

-- it is calm and leads to this core
pub record Leads (core last : Core) : Type 0 where
  pub calm : IsCalm core
  pub next : core_after core ≡ last

-- the word at the counter, with its parts
pub record Fetches (words : List ℕ) (counter word : ℕ) (op : Op) (address : ℕ) : Type 0 where
  pub here : slice_index words counter ≡ word
  pub is_op : op_at word ≡ op
  pub is_at : address_at word ≡ address

-- the orders that print and look at nothing: all but p, i, t and z, whatever else they do
abbrev pub core_at : Switches → ℕ → ℕ → ℕ → List ℕ → Tape → Core
core_at switches counter accumulator register words tape = core_of (going switches counter accumulator register) words tape

-- an order performed
abbrev pub performed : Switches → ℕ → ℕ → List ℕ → Tape → Op → Bool → ℕ → ℕ → Core
performed switches counter accumulator words tape op minus address word =
    after_order (row op minus address (core_at switches (address_after counter) accumulator word words tape)) Going

prints_row : (op other : Op) (minus : Bool) (address : ℕ) (core : Core) (code : Option ℕ) → op ≡ other → (row other minus address core).prints ≡ code
    → (row op minus address core).prints ≡ code
prints_row op other minus address core code same is = subst (λ op. (row op minus address core).prints ≡ code) (sym same) is

-- what an order does is what its row does
pub performs : (switches : Switches) (counter accumulator register : ℕ) (words : List ℕ) (tape : Tape) (word : ℕ) (op : Op) (address : ℕ)
    → Fetches words counter word op address
    → (row op (sign_of word) address (core_at switches (address_after counter) accumulator word words tape)).prints ≡ None
    → order_looks op (sign_of word) address ≡ false
    → (last : Core) → performed switches counter accumulator words tape op (sign_of word) address word ≡ last
    → Leads (core_at switches counter accumulator register words tape) last
unfolding core_after print_of
performs switches counter accumulator register words tape word op address fetches silent blind last is =
    grind (arith, prints_row)

-- p 0000 starts the reader
pub reader_starts : (switches : Switches) (counter accumulator register : ℕ) (words passed left : List ℕ) (word : ℕ)
    → Fetches words counter word P 0
    → Leads (core_at switches counter accumulator register words (off passed left)) (core_at switches (address_after counter) accumulator word words (on passed left))
reader_starts switches counter accumulator register words passed left word fetches =
    performs switches _ _ _ _ _ _ P 0 fetches refl refl
    (core_at switches (address_after counter) accumulator word words (on passed left)) refl

or_true : (b : Bool) → (b || true) ≡ true
or_true true = refl
or_true false = refl

-- what an input passes of codes up to a conditional stop
passes_to_stop : (codes rest : List ℕ) → list_any is_stop codes ≡ false → passed_codes (codes ++ stop_code ∷ rest) ≡ codes ++ stop_code ∷ []
passes_to_stop [] rest none = refl
passes_to_stop (code ∷ codes) rest none =
    let (first, others) = or_parts (is_stop code) (list_any is_stop codes) none in
    rw first (ap (λ more. code ∷ more) (passes_to_stop codes rest others))

leaves_rest : (codes rest : List ℕ) → list_any is_stop codes ≡ false → left_after (codes ++ stop_code ∷ rest) ≡ rest
leaves_rest [] rest none = refl
leaves_rest (code ∷ codes) rest none =
    let (first, others) = or_parts (is_stop code) (list_any is_stop codes) none in
    rw first (leaves_rest codes rest others)

meets_stop : (codes rest : List ℕ) → met_stop (codes ++ stop_code ∷ rest) ≡ true
meets_stop [] rest = refl
meets_stop (code ∷ codes) rest = ap (λ met. is_stop code || met) (meets_stop codes rest) ∙ or_true _

-- codes that enter as a word, and the conditional stop after them
enters_word : (codes : List ℕ) (word accumulator : ℕ) → filter enters codes ≡ word_codes word → IsWord word
    → accumulator_after_all false accumulator (codes ++ stop_code ∷ []) ≡ word
enters_word codes word accumulator same is =
    let entered : filter enters (codes ++ stop_code ∷ []) ≡ word_codes word = filter-append enters codes (stop_code ∷ []) ∙ (append-nil (filter enters codes) ∙ same) in
    rw entered (word_keyed _ _ is.0)

-- the core after codes have been read
input_core : Switches → ℕ → ℕ → ℕ → List ℕ → List ℕ → List ℕ → Bool → Core
input_core switches counter accumulator word words passed left met =
    after_order (record { core = core_at switches counter accumulator word words (off passed left); ending = cond met Plain Unfinished; prints = None }) Going

-- i 0000 reads a word
pub word_read : (switches : Switches) (counter accumulator register : ℕ) (words passed codes rest : List ℕ) (order word : ℕ)
    → Fetches words counter order I 0
    → list_any is_stop codes ≡ false → filter enters codes ≡ word_codes word → IsWord word
    → Leads (core_at switches counter accumulator register words (on passed (codes ++ stop_code ∷ rest)))
    (core_at switches (address_after counter) word order words (off (passed ++ (codes ++ stop_code ∷ [])) rest))
unfolding input_core
word_read switches counter accumulator register words passed codes rest order word fetches none same is =
    let left = codes ++ stop_code ∷ rest in
    let read = input_core switches (address_after counter) in
    performs switches counter accumulator register words (on passed left) order I 0 fetches refl refl
    (core_at switches (address_after counter) word order words (off (passed ++ (codes ++ stop_code ∷ [])) rest))
    (ap (λ codes. read (accumulator_after_all false accumulator codes) order words (passed ++ codes) (left_after left) (met_stop left)) (passes_to_stop codes rest none)
    ∙ (ap (λ n. read n order words (passed ++ (codes ++ stop_code ∷ [])) (left_after left) (met_stop left)) (enters_word codes word accumulator same is)
    ∙ (ap (λ more. read word order words (passed ++ (codes ++ stop_code ∷ [])) more (met_stop left)) (leaves_rest codes rest none)
    ∙ ap (λ met. read word order words (passed ++ (codes ++ stop_code ∷ [])) rest met) (meets_stop codes rest))))

-- t without a minus: it goes on where the accumulator is positive, and transfers where it is negative
pub goes_on : (switches : Switches) (counter accumulator register : ℕ) (words : List ℕ) (tape : Tape) (word address : ℕ)
    → Fetches words counter word T address → sign_of word ≡ false → sign_of accumulator ≡ false
    → Leads (core_at switches counter accumulator register words tape) (core_at switches (address_after counter) accumulator word words tape)
goes_on switches counter accumulator register words tape word address fetches plus positive =
    performs switches counter accumulator register words tape word T address fetches refl plus
    (core_at switches (address_after counter) accumulator word words tape) (rw (plus, positive) refl)

pub transfers_to : (switches : Switches) (counter accumulator register : ℕ) (words : List ℕ) (tape : Tape) (word address : ℕ)
    → Fetches words counter word T address → sign_of word ≡ false → sign_of accumulator ≡ true
    → Leads (core_at switches counter accumulator register words tape) (core_at switches address accumulator word words tape)
transfers_to switches counter accumulator register words tape word address fetches plus negative =
    performs switches counter accumulator register words tape word T address fetches refl plus
    (core_at switches address accumulator word words tape) (rw (plus, negative) refl)

stored_word : (word : ℕ) → IsWord word → stored word ≡ word
stored_word word (small, even) = omega arith

-- h stores a word and keeps it, c stores it and clears the accumulator
pub held : (switches : Switches) (counter accumulator register : ℕ) (words : List ℕ) (tape : Tape) (word address : ℕ)
    → Fetches words counter word H address → IsWord accumulator
    → Leads (core_at switches counter accumulator register words tape) (core_at switches (address_after counter) accumulator word (slice_set words address accumulator) tape)
held switches counter accumulator register words tape word address fetches is =
    performs switches _ _ _ _ _ _ H _ fetches refl refl
    (core_at switches (address_after counter) accumulator word (slice_set words address accumulator) tape)
    (ap (λ n. core_at switches (address_after counter) accumulator word (slice_set words address n) tape) (stored_word _ is))

pub cleared : (switches : Switches) (counter accumulator register : ℕ) (words : List ℕ) (tape : Tape) (word address : ℕ)
    → Fetches words counter word C address → IsWord accumulator
    → Leads (core_at switches counter accumulator register words tape) (core_at switches (address_after counter) 0 word (slice_set words address accumulator) tape)
cleared switches counter accumulator register words tape word address fetches is =
    performs switches _ _ _ _ _ _ C _ fetches refl refl
    (core_at switches (address_after counter) 0 word (slice_set words address accumulator) tape)
    (ap (λ n. core_at switches (address_after counter) 0 word (slice_set words address n) tape) (stored_word _ is))

-- u jumps
pub jumps : (switches : Switches) (counter accumulator register : ℕ) (words : List ℕ) (tape : Tape) (word address : ℕ)
    → Fetches words counter word U address
    → Leads (core_at switches counter accumulator register words tape) (core_at switches address accumulator word words tape)
jumps switches counter accumulator register words tape word address fetches =
    performs switches _ _ _ _ _ _ U _ fetches refl refl (core_at switches address accumulator word words tape) refl

-- no BREAK POINT switch passes over a stop at track 0
no_stop_passed : (switches : Switches) → passes_stop (record switches { six_bit = false }) 0 ≡ false
no_stop_passed switches = grind (arith, nat_tests)

-- z 0000 stops
pub stops : (switches : Switches) (counter accumulator register : ℕ) (words : List ℕ) (tape : Tape) (word : ℕ)
    → Fetches words counter word Z 0
    → Leads (core_at switches counter accumulator register words tape)
    (with_status (core_at switches (address_after counter) accumulator word words tape) (Halted Stop))
stops switches counter accumulator register words tape word fetches =
    performs switches _ _ _ _ _ _ Z 0 fetches refl refl
    (with_status (core_at switches (address_after counter) accumulator word words tape) (Halted Stop)) (ap (λ b. after_order (record { core = core_at switches (address_after counter) accumulator word words tape; ending = cond b Plain Stopped; prints = None }) Going) (no_stop_passed switches))

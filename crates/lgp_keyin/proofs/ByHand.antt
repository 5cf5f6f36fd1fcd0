-- What the keys and one order do: a word is stored, or the counter set.
use Rattle.std.proofs.Common.{◌≡◌, ℕ, suc, ◌+◌, ◌/◌, ◌%◌, ◌<◌, Bool, false, refl, sym, ap, ◌∙◌, arith, List, [], ◌∷◌, ◌++◌, map, fold, None, slice_set, append-nil, length, ◌≤◌, subst, option_to_list}
use Rattle.std.specs.List.{All}
use Rattle.std.specs.List.{list_any}
use Rattle.std.proofs.lemmas.Bool.{or_parts}
use Rattle.std.proofs.lemmas.List.Sums.{fold-append}
use Rattle.lgp_word.specs.Address.{IsAddress}
use Rattle.lgp_word.specs.Order.{address_at, op_at, op_of}
use Rattle.lgp_word.specs.Word.{IsWord, stored}
use Rattle.lgp_word.specs.declared.order.Op.{Op}
use Rattle.lgp_word.specs.declared.order.Op.TheVariants.{H, U}
use Rattle.lgp_flexo.specs.Code.{is_skipped, is_stop}
use Rattle.lgp_flexo.specs.Input.{accumulator_after}
use Rattle.lgp_flexo.specs.Tape.{Tape}
use Rattle.lgp_flexo.proofs.WordCodes.{word_keyed, word_no_stop, word_not_skipped}
use Rattle.lgp_table.specs.State.{Core, State, core_of}
use Rattle.lgp_table.specs.Rows.{row}
use Rattle.lgp_table.specs.Activity.{core_after, next, print_of}
use Rattle.lgp_table.specs.Console.{Console, console_after, is_at_rest, status_in_mode}
use Rattle.lgp_table.specs.Interleaving.{Configuration, at_boundary, console_of, with_console}
use Rattle.lgp_table.specs.declared.action.Action.{Action}
use Rattle.lgp_table.specs.declared.action.Action.TheVariants as actions
use Rattle.lgp_table.specs.declared.panel.Cause.{Cause}
use Rattle.lgp_table.specs.declared.panel.Cause.TheVariants.{Operator, Step}
use Rattle.lgp_table.specs.declared.panel.Mode.TheVariants.{OneOperation, Manual}
use Rattle.lgp_table.specs.declared.panel.Panel.{Panel}
use Rattle.lgp_table.specs.declared.panel.Status.{Status}
use Rattle.lgp_table.specs.declared.panel.Status.TheVariants.{Halted, Going, Executing, Waiting, Reading}
use Rattle.lgp_keyin.specs.KeyIn.{keyed, words_keyed, with_four_bit_input, about_to_jump, about_to_store, jump_order, started, store_order, word_keys}
use Rattle.lgp_keyin.specs.Keyed.{panel_after_store, state_after_words, state_when_started}

-- the orders that are keyed in
pub store_op : (address : ℕ) → address < 4096 → op_at (store_order address) ≡ H
unfolding op_of
store_op address within =
    let number : store_order address / 65536 % 16 ≡ 12 = omega arith in
    rw number refl

pub jump_op : (address : ℕ) → address < 4096 → op_at (jump_order address) ≡ U
unfolding op_of
jump_op address within =
    let number : jump_order address / 65536 % 16 ≡ 10 = omega arith in
    rw number refl

pub store_address : (address : ℕ) → address < 4096 → address_at (store_order address) ≡ address
store_address address within = omega arith

pub jump_address : (address : ℕ) → address < 4096 → address_at (jump_order address) ≡ address
jump_address address within = omega arith

store_is_word : (address : ℕ) → address < 4096 → IsWord (store_order address)
store_is_word address within = (omega arith, omega arith)

jump_is_word : (address : ℕ) → address < 4096 → IsWord (jump_order address)
jump_is_word address within = (omega arith, omega arith)

pub stored_word : (word : ℕ) → IsWord word → stored word ≡ word
stored_word word (small, even) = omega arith

-- a machine that has halted in Manual, with 6 BIT INPUT up
abbrev in_manual : Panel → Cause → ℕ → Panel
in_manual panel cause accumulator = record panel {
  accumulator = accumulator;
  status = Halted cause;
  mode = Manual;
  switches = record panel.switches { six_bit = false };
}

abbrev manual_console : Panel → Tape → Cause → ℕ → Console
manual_console panel tape cause accumulator = record { panel = in_manual panel cause accumulator; tape = tape }

key_struck : (panel : Panel) (tape : Tape) (cause : Cause) (accumulator code : ℕ) → is_stop code ≡ false → is_skipped code ≡ false
    → console_after (manual_console panel tape cause accumulator) (actions.Key code)
    ≡ manual_console panel tape cause (accumulator_after false accumulator code)
key_struck panel tape cause accumulator code no_stop not_skipped = rw (not_skipped, no_stop) refl

keys_struck : (panel : Panel) (tape : Tape) (cause : Cause) (accumulator : ℕ) (codes : List ℕ) → list_any is_stop codes ≡ false → list_any is_skipped codes ≡ false
    → fold console_after (manual_console panel tape cause accumulator) (map (λ code. actions.Key code) codes)
    ≡ manual_console panel tape cause (fold (accumulator_after false) accumulator codes)
keys_struck panel tape cause accumulator [] no_stop not_skipped = refl
keys_struck panel tape cause accumulator (code ∷ codes) no_stop not_skipped =
    let (stop, stops) = or_parts _ _ no_stop in
    let (skip, skips) = or_parts _ _ not_skipped in
    ap (λ (console : Console). fold console_after console (map (λ code. actions.Key code) codes)) (key_struck panel _ _ _ _ stop skip)
    ∙ keys_struck panel tape cause (accumulator_after false accumulator code) codes stops skips

word_struck : (panel : Panel) (tape : Tape) (cause : Cause) (accumulator word : ℕ) → IsWord word
    → fold console_after (manual_console panel tape cause accumulator) (word_keys word) ≡ manual_console panel tape cause word
word_struck panel tape cause accumulator word is =
    grind (arith, keys_struck, word_no_stop, word_not_skipped, word_keyed)

-- a word struck, and whatever is pressed after it
word_struck_then : (panel : Panel) (tape : Tape) (cause : Cause) (accumulator word : ℕ) (rest : List Action) → IsWord word
    → fold console_after (manual_console panel tape cause accumulator) (word_keys word ++ rest) ≡ fold console_after (manual_console panel tape cause word) rest
word_struck_then panel tape cause accumulator word rest is =
    grind (arith, fold-append, word_struck)

-- the button Manual halts a machine that has not halted
cause_in_manual : Status → Cause
cause_in_manual (Halted cause) = cause
cause_in_manual _ = Operator

manual_halts : (status : Status) → status_in_mode Manual status ≡ Halted (cause_in_manual status)
unfolding cause_in_manual
manual_halts (Halted cause) = refl
manual_halts Going = refl
manual_halts Executing = refl
manual_halts Waiting = refl
manual_halts Reading = refl

manual_pressed : (console : Console) → console.panel.switches.six_bit ≡ false
    → console_after console (actions.Mode Manual) ≡ manual_console console.panel console.tape (cause_in_manual console.panel.status) console.panel.accumulator
manual_pressed console up =
    grind (arith, manual_halts, cause_in_manual)

-- an order filled into the instruction register, and whatever is pressed after it
order_filled : (console : Console) (order : ℕ) (rest : List Action) → console.panel.switches.six_bit ≡ false → IsWord order
    → fold console_after console (actions.Mode Manual ∷ (word_keys order ++ (actions.Fill ∷ rest)))
    ≡ fold console_after (manual_console (record console.panel { register = order }) console.tape (cause_in_manual console.panel.status) order) rest
order_filled console order rest up is =
    grind (arith, cause_in_manual, manual_pressed, word_struck_then, stored_word)

-- about to perform an order from the instruction register
abbrev executing : Panel → ℕ → ℕ → Panel
executing panel order accumulator = record panel {
  accumulator = accumulator;
  register = order;
  status = Executing;
  mode = OneOperation;
  switches = record panel.switches { six_bit = false };
}

abbrev about_to : State → ℕ → ℕ → State
about_to s order accumulator = record s { core = record s.core { panel = executing s.core.panel order accumulator } }

pub store_keyed : (s : State) (address word : ℕ) → s.core.panel.switches.six_bit ≡ false → IsAddress address → IsWord word
    → about_to_store s address word ≡ about_to s (store_order address) word
store_keyed s address word up within is =
    let order = store_order address in
    ap (λ (console : Console). with_console s console)
    (order_filled (console_of s) _ _ up (store_is_word _ within)
    ∙ word_struck_then (record s.core.panel { register = order }) _ _ _ _ _ is)

-- what the panel shows then
pub shows_store : (now : Configuration) (s : State) (address word : ℕ) → now ≡ at_boundary (about_to_store s address word) → s.core.panel.switches.six_bit ≡ false → IsAddress address → IsWord word
    → (now.state.core.panel.status ≡ Executing) × (now.state.core.panel.register ≡ store_order address)
shows_store now s address word at up within is =
    grind (arith, store_keyed)

pub jump_keyed : (s : State) (address : ℕ) → s.core.panel.switches.six_bit ≡ false → IsAddress address
    → about_to_jump s address ≡ about_to s (jump_order address) (jump_order address)
jump_keyed s address up within =
    ap (λ (console : Console). with_console s console) (order_filled (console_of s) _ _ up (jump_is_word _ within))

-- the order in the instruction register performed: a store
pub core_stored : (core : Core) (address word : ℕ) → IsAddress address → IsWord word
    → core_after (record core { panel = executing core.panel (store_order address) word })
    ≡ core_of (panel_after_store core.panel address word) (slice_set core.words address word) core.tape
unfolding core_after
core_stored core address word within is = rw (store_op _ within, store_address _ within, stored_word _ is) refl

-- neither h nor u prints
silent_h : (op : Op) (minus : Bool) (m : ℕ) (core : Core) → op ≡ H → (row op minus m core).prints ≡ None
silent_h op minus m core is = subst (λ op. (row op minus m core).prints ≡ None) (sym is) refl

silent_u : (op : Op) (minus : Bool) (m : ℕ) (core : Core) → op ≡ U → (row op minus m core).prints ≡ None
silent_u op minus m core is = subst (λ op. (row op minus m core).prints ≡ None) (sym is) refl

pub silent_store : (core : Core) (address word : ℕ) → IsAddress address
    → print_of (record core { panel = executing core.panel (store_order address) word }) ≡ None
unfolding print_of
silent_store core address word within =
    grind (arith, silent_h, store_op)

silent_jump : (core : Core) (address word : ℕ) → IsAddress address
    → print_of (record core { panel = executing core.panel (jump_order address) word }) ≡ None
unfolding print_of
silent_jump core address word within =
    grind (arith, silent_u, jump_op)

core_jumped : (core : Core) (address : ℕ) → IsAddress address
    → core_after (record core { panel = executing core.panel (jump_order address) (jump_order address) })
    ≡ record core { panel = record (executing core.panel (jump_order address) (jump_order address)) { counter = address; status = Halted Step } }
unfolding core_after
core_jumped core address within = rw (jump_op _ within, jump_address _ within) refl

-- an activity whose core is known, and that prints nothing
pub settled : (s : State) (core : Core) → core_after s.core ≡ core → print_of s.core ≡ None
    → next s ≡ record { core = core; printed = s.printed; clock = (next s).clock }
settled s core is silent =
    let clock = (next s).clock in
    ap (λ c. record { core = c; printed = s.printed ++ option_to_list (print_of s.core); clock = clock }) is
    ∙ (ap (λ p. record { core = core; printed = s.printed ++ option_to_list p; clock = clock }) silent
    ∙ ap (λ printed. record { core = core; printed = printed; clock = clock }) (append-nil s.printed))

-- after a word has been stored by hand, at some clock
abbrev pub after_store : State → ℕ → ℕ → ℕ → State
after_store s address word clock = record {
  core = core_of (panel_after_store s.core.panel address word) (slice_set s.core.words address word) s.core.tape;
  printed = s.printed;
  clock = clock;
}

pub stored_by_hand : (s : State) (address word : ℕ) → s.core.panel.switches.six_bit ≡ false → IsAddress address → IsWord word
    → next (about_to_store s address word) ≡ after_store s address word (next (about_to_store s address word)).clock
stored_by_hand s address word up within is =
    let keyed = store_keyed s _ _ up within is in
    let core = core_of (panel_after_store s.core.panel address word) (slice_set s.core.words address word) s.core.tape in
    ap next keyed
    ∙ (settled _ _ (core_stored s.core _ _ within is) (silent_store s.core _ _ within)
    ∙ ap (λ (t : State). after_store s address word (next t).clock) (sym keyed))

jumped_by_hand : (s : State) (address : ℕ) → s.core.panel.switches.six_bit ≡ false → IsAddress address
    → next (about_to_jump s address)
    ≡ record {
      core = record s.core { panel = record (executing s.core.panel (jump_order address) (jump_order address)) { counter = address; status = Halted Step } };
      printed = s.printed;
      clock = (next (about_to_jump s address)).clock;
    }
jumped_by_hand s address up within =
    let keyed = jump_keyed s _ up within in
    let core : Core = record s.core { panel = record (executing s.core.panel (jump_order address) (jump_order address)) { counter = address; status = Halted Step } } in
    ap next keyed
    ∙ (settled _ _ (core_jumped s.core _ within) (silent_jump s.core _ _ within)
    ∙ ap (λ (t : State). record { core = core; printed = s.printed; clock = (next t).clock }) (sym keyed))

pub started_by_hand : (s : State) (address : ℕ) → s.core.panel.switches.six_bit ≡ false → IsAddress address
    → started s address ≡ state_when_started s address (next (about_to_jump s address)).clock
started_by_hand s address up within =
    grind (arith, jumped_by_hand)

words_are : (s : State) (base : ℕ) (words : List ℕ) → s.core.panel.switches.six_bit ≡ false → All IsWord words → base + length words ≤ 4096
    → words_keyed s base words ≡ state_after_words s base words (words_keyed s base words).clock
unfolding words_keyed
words_are s base [] up all within = grind arith
words_are s base (word ∷ words) up all within =
    let is : IsWord word = all 0 0 (omega arith) in
    let others : All IsWord words = λ k d less. all (suc k) d (omega (arith, less)) in
    let now = next (about_to_store s base word) in
    let here = stored_by_hand s _ _ up (omega (arith, within)) is in
    let rest = words_are (after_store s base word now.clock) (base + 1) words refl others (omega (arith, within)) in
    ap (λ t. words_keyed t (base + 1) words) here
    ∙ (rest ∙ ap (λ (t : State). state_after_words s base (word ∷ words) (words_keyed t (base + 1) words).clock) (sym here))

pub keyed_are : (s : State) (base : ℕ) (words : List ℕ) → All IsWord words → base + length words ≤ 4096
    → keyed s base words ≡ state_after_words s base words (keyed s base words).clock
keyed_are s base [] all within = words_are (with_four_bit_input s) base [] refl all within
keyed_are s base (word ∷ words) all within = words_are (with_four_bit_input s) base (word ∷ words) refl all within

-- the machine may go on with the order that stores: it is not at rest, and nothing is printed
pub about_to_store_works : (s : State) (address word : ℕ) → s.core.panel.switches.six_bit ≡ false → IsAddress address → IsWord word
    → is_at_rest (about_to_store s address word).core.panel.status ≡ false
about_to_store_works s address word up within is = grind (arith, store_keyed)

pub about_to_store_is_silent : (s : State) (address word : ℕ) → s.core.panel.switches.six_bit ≡ false → IsAddress address → IsWord word
    → print_of (about_to_store s address word).core ≡ None
about_to_store_is_silent s address word up within is =
    ap (λ (t : State). print_of t.core) (store_keyed s _ _ up within is) ∙ silent_store s.core _ _ within

pub up_after_store : (s : State) (address word : ℕ) → s.core.panel.switches.six_bit ≡ false → IsAddress address → IsWord word
    → (next (about_to_store s address word)).core.panel.switches.six_bit ≡ false
up_after_store s address word up within is = grind (arith, stored_by_hand)

pub ruleset storing = (about_to_store_works, about_to_store_is_silent, up_after_store)

-- the same of the order that jumps
pub about_to_jump_works : (s : State) (address : ℕ) → s.core.panel.switches.six_bit ≡ false → IsAddress address
    → is_at_rest (about_to_jump s address).core.panel.status ≡ false
about_to_jump_works s address up within = ap (λ (t : State). is_at_rest t.core.panel.status) (jump_keyed s _ up within)

pub about_to_jump_is_silent : (s : State) (address : ℕ) → s.core.panel.switches.six_bit ≡ false → IsAddress address
    → print_of (about_to_jump s address).core ≡ None
about_to_jump_is_silent s address up within =
    ap (λ (t : State). print_of t.core) (jump_keyed s _ up within) ∙ silent_jump s.core _ _ within

pub ruleset jumping = (about_to_jump_works, about_to_jump_is_silent)

-- A step is undone by what is recorded of it.
use Rattle.std.proofs.Common.{◌≡◌, ℕ, ◌<◌, ◌≤◌, ◌==◌, ◌⊎◌, Bool, true, false, cond, List, [], ◌∷◌, ◌++◌, length, get_or, set, Option, Some, None, refl, sym, ◌∙◌, ap, le-leb, lt-ltb, eqb-true, arith, length-append, length-set, get_or-set_same, set-set, append_assoc, eq-eqb, true≢false, inl, inr, append-nil, take_all}
use Rattle.std.proofs.lemmas.List.{set-get_or, take-append-drop}
use Rattle.std.proofs.Math.Seq.{set_out, take-append_seam, drop-append_seam}
use Rattle.lgp_word.specs.declared.order.Op.{Op}
use Rattle.lgp_word.specs.declared.order.Op.TheVariants.{Z, B, Y, R, I, D, N, M, P, E, U, T, H, C, A, S}
use Rattle.lgp_word.specs.Order.{address_at, op_at, sign_of}
use Rattle.lgp_flexo.specs.Input.{left_after, passed_codes}
use Rattle.lgp_flexo.specs.Tape.{Tape, all_codes, passing, tape_after_input}
use Rattle.lgp_table.specs.State.{Core, State, word_at}
use Rattle.lgp_table.specs.Rows.{row}
use Rattle.lgp_table.specs.Activity.{after_fetch, begun_in, core_after, core_after_begun, print_of}
use Rattle.lgp_table.specs.Console.{console_after, effect_on}
use Rattle.lgp_table.specs.Interleaving.{console_of}
use Rattle.lgp_table.specs.declared.action.Action.{Action}
use Rattle.lgp_table.specs.declared.action.Action.TheVariants as actions
use Rattle.lgp_table.specs.declared.panel.Status.{Status}
use Rattle.lgp_table.specs.declared.panel.Status.TheVariants.{Halted, Going, Executing, Waiting, Reading}
use Rattle.lgp_machine.specs.Marks.{mark_of, state_at_mark, words_with}
use Rattle.lgp_history.specs.Steps.{stepped}
use Rattle.lgp_history.specs.RecordedInside.{belongs, can_restore, lost_by, lost_in, recorded, undone}
use Rattle.lgp_history.specs.Step.{Step, Perform, Press, Idle, Mount, Put}

lt_or_le : (a b : ℕ) → (a < b) ⊎ (b ≤ a)
lt_or_le a b = grind arith

-- words that differ from earlier ones in a lost word alone
pub record AreAfter (before after : List ℕ) (lost : Option (ℕ × ℕ)) : Type 0 where
  pub restored : words_with after lost ≡ before
  pub restorable : can_restore lost after ≡ true

same_words : (ws : List ℕ) → AreAfter ws ws None
same_words ws = record { restored = refl; restorable = refl }

stored_same : (ws : List ℕ) (a w : ℕ) → get_or (set ws a w) a 0 ≡ get_or ws a 0 → set ws a w ≡ ws
stored_same ws a w same =
    elim (lt_or_le a _)
    [ inl h ↦ ap (λ v. set ws a v) (sym (get_or-set_same ws a w 0 h) ∙ same) ∙ set-get_or ws a 0 | inr h ↦ set_out ws a w h ]

stored_within : (ws : List ℕ) (a w : ℕ) → (get_or (set ws a w) a 0 == get_or ws a 0) ≡ false → a < length ws
stored_within ws a w other =
    elim (lt_or_le a _)
    [ inl h ↦ h | inr h ↦ absurd (true≢false (sym (eq-eqb _ _ (ap (λ xs. get_or xs a 0) (set_out ws a w h))) ∙ other)) ]

stored_other : (ws : List ℕ) (a w : ℕ) → (get_or (set ws a w) a 0 == get_or ws a 0) ≡ false → AreAfter ws (set ws a w) (Some (a, get_or ws a 0))
stored_other ws a w other = record {
  restored = set-set ws a w (get_or ws a 0) ∙ set-get_or ws a 0;
  restorable = rw (length-set ws a w, lt-ltb a (length ws) (stored_within ws a w other), other);
}

pub words_stored : (ws : List ℕ) (a w : ℕ) → AreAfter ws (set ws a w) (cond (get_or (set ws a w) a 0 == get_or ws a 0) None (Some (a, get_or ws a 0)))
words_stored ws a w =
    elim (get_or (set ws a w) a 0 == get_or ws a 0) as (λ b. (get_or (set ws a w) a 0 == get_or ws a 0) ≡ b → AreAfter ws (set ws a w) (cond b None (Some (a, get_or ws a 0))))
    [ true ↦ λ e. record { restored = stored_same ws a w (eqb-true _ _ e); restorable = refl } | false ↦ λ e. stored_other ws a w e ] refl

-- the words after an order
row_words : (op : Op) (minus : Bool) (m : ℕ) (core : Core) → AreAfter core.words (row op minus m core).core.words (lost_by op m core)
row_words Y minus m core = words_stored _ m _
row_words R minus m core = words_stored _ m _
row_words H minus m core = words_stored _ m _
row_words C minus m core = words_stored _ m _
row_words Z minus m core = same_words _
row_words B minus m core = same_words _
row_words I minus m core = same_words _
row_words D minus m core = same_words _
row_words N minus m core = same_words _
row_words M minus m core = same_words _
row_words P minus m core = same_words _
row_words E minus m core = same_words _
row_words U minus m core = same_words _
row_words T minus m core = same_words _
row_words A minus m core = same_words _
row_words S minus m core = same_words _

words_after : (status : Status) (core : Core) → AreAfter core.words (core_after_begun (begun_in status core) status core).words (lost_in (begun_in status core))
words_after (Halted cause) core = same_words _
words_after Going core =
    row_words _ _ _ _
words_after Executing core =
    row_words _ _ _ _
words_after Waiting core = same_words _
words_after Reading core = same_words _

-- a tape that differs from an earlier one in what has passed since
pub record IsLaterTape (before after : Tape) : Type 0 where
  pub codes : all_codes after ≡ all_codes before
  pub passed : length before.passed ≤ length after.passed

same_tape : (tape : Tape) (on : Bool) → IsLaterTape tape (record tape { on = on })
same_tape tape on = record { codes = refl; passed = omega arith }

passed-left : (codes : List ℕ) → passed_codes codes ++ left_after codes ≡ codes
passed-left [] = refl
passed-left (code ∷ codes) =
    grind (arith, passed-left codes)

input_codes : (on : Bool) (passed left : List ℕ) → (passed ++ cond on (passed_codes left) []) ++ cond on (left_after left) left ≡ passed ++ left
input_codes true passed left = append_assoc passed (passed_codes left) (left_after left) ∙ ap (λ cs. passed ++ cs) (passed-left _)
input_codes false passed left = ap (λ cs. cs ++ left) (append-nil passed)

input_tape : (tape : Tape) → IsLaterTape tape (tape_after_input tape)
input_tape tape = record { codes = input_codes tape.on tape.passed tape.left; passed = omega (arith, length-append tape.passed (passing tape)) }

row_tape : (op : Op) (minus : Bool) (m : ℕ) (core : Core) → IsLaterTape core.tape (row op minus m core).core.tape
row_tape I minus m core = input_tape _
row_tape P minus m core = same_tape _ _
row_tape Z minus m core = same_tape _ _
row_tape B minus m core = same_tape _ _
row_tape Y minus m core = same_tape _ _
row_tape R minus m core = same_tape _ _
row_tape D minus m core = same_tape _ _
row_tape N minus m core = same_tape _ _
row_tape M minus m core = same_tape _ _
row_tape E minus m core = same_tape _ _
row_tape U minus m core = same_tape _ _
row_tape T minus m core = same_tape _ _
row_tape H minus m core = same_tape _ _
row_tape C minus m core = same_tape _ _
row_tape A minus m core = same_tape _ _
row_tape S minus m core = same_tape _ _

tape_after : (status : Status) (core : Core) → IsLaterTape core.tape (core_after_begun (begun_in status core) status core).tape
tape_after (Halted cause) core = same_tape _ _
tape_after Going core =
    let word = word_at core core.panel.counter in
    row_tape (op_at word) (sign_of word) (address_at word) (after_fetch core)
tape_after Executing core =
    let word = core.panel.register in
    row_tape (op_at word) (sign_of word) (address_at word) core
tape_after Waiting core = same_tape _ _
tape_after Reading core = input_tape _

effect_tape : (s : State) (action : Action) → IsLaterTape s.core.tape (effect_on (console_of s) action).tape
effect_tape s (actions.Mode mode) = same_tape _ _
effect_tape s actions.Start = same_tape _ _
effect_tape s actions.ClearCounter = same_tape _ _
effect_tape s actions.Fill = same_tape _ _
effect_tape s actions.Execute = same_tape _ _
effect_tape s (actions.Key code) = same_tape _ _
effect_tape s actions.StartCompute = same_tape _ _
effect_tape s actions.StartRead = same_tape _ _
effect_tape s (actions.BreakPoint which down) = same_tape _ _
effect_tape s (actions.Transfer down) = same_tape _ _
effect_tape s (actions.SixBit down) = same_tape _ _

action_tape : (s : State) (action : Action) → IsLaterTape s.core.tape (console_after (console_of s) action).tape
action_tape s action =
    grind (arith, effect_tape, same_tape)

-- a later state is taken back to an earlier one
taken_back : (s t : State) (lost : Option (ℕ × ℕ)) (more : List ℕ) → AreAfter s.core.words t.core.words lost → IsLaterTape s.core.tape t.core.tape → t.printed ≡ s.printed ++ more → state_at_mark t (mark_of s) lost ≡ s
taken_back s t lost more words tape printed =
    rw (words.restored, tape.codes, printed, take-append_seam s.printed more, take-append_seam s.core.tape.passed s.core.tape.left, drop-append_seam s.core.tape.passed s.core.tape.left) refl

can_be_after : (step : Step) (s t : State) (lost : Option (ℕ × ℕ)) (more : List ℕ) → AreAfter s.core.words t.core.words lost → IsLaterTape s.core.tape t.core.tape → t.printed ≡ s.printed ++ more
    → belongs (record { step = step; mark = mark_of s; lost = lost; tape = None }) t ≡ true
can_be_after step s t lost more words tape printed =
    let room : length s.printed ≤ length t.printed = rw printed (omega (arith, length-append s.printed more)) in
    rw (le-leb _ _ room, le-leb _ _ tape.passed, words.restorable) refl

undone-plain : (step : Step) (s t : State) (lost : Option (ℕ × ℕ)) (more : List ℕ) → AreAfter s.core.words t.core.words lost → IsLaterTape s.core.tape t.core.tape → t.printed ≡ s.printed ++ more
    → undone (record { step = step; mark = mark_of s; lost = lost; tape = None }) t ≡ s
undone-plain step s t lost more words tape printed =
    rw (can_be_after _ s t _ _ words tape printed) (taken_back s t _ _ words tape printed)

undone-mount : (codes : List ℕ) (s : State) → undone (recorded (Mount codes) s) (stepped (Mount codes) s) ≡ s
undone-mount codes s =
    let tape = s.core.tape in
    rw (le-leb (length s.printed) (length s.printed) (omega arith), take-append-drop (length tape.passed) (tape.passed ++ tape.left), take_all (length s.printed) s.printed (omega arith), take-append_seam tape.passed tape.left, drop-append_seam tape.passed tape.left) refl

-- every step is undone by what is recorded of it
pub undone-recorded : (step : Step) (s : State) → undone (recorded step s) (stepped step s) ≡ s
unfolding core_after print_of
undone-recorded Perform s =
    undone-plain Perform s _ _ _ (words_after _ _) (tape_after _ _) refl
undone-recorded (Press action) s = undone-plain (Press action) s (stepped (Press action) s) _ [] (same_words _) (action_tape s action) (sym (append-nil s.printed))
undone-recorded (Idle times) s = undone-plain (Idle times) s _ _ [] (same_words _) (same_tape _ _) (sym (append-nil s.printed))
undone-recorded (Mount codes) s = undone-mount _ s
undone-recorded (Put address word) s =
    undone-plain (Put address word) s _ _ [] (words_stored _ _ _) (same_tape _ _) (sym (append-nil s.printed))

-- The first orders of a run, asked for by a line of their own.
use Rattle.std.proofs.Common.{◌≡◌, ℕ, zero, suc, ◌+◌, ◌-◌, ◌≤◌, ◌<◌, ◌==◌, ◌||◌, Bool, true, false, cond, Option, Some, None, List, [], ◌∷◌, ◌++◌, append_assoc, is_some, length, min, nat_lt, map, refl, ap, arith, sym, subst, ◌∙◌}
use Rattle.std.proofs.lemmas.Bool.Decides.{nat_tests}
use Rattle.std.proofs.lemmas.List.{append-nil}
use Rattle.std.specs.List.{concat}
use Rattle.std.specs.Str.Lines.{lines}
use Rattle.lgp_table.specs.State.{State}
use Rattle.lgp_table.specs.Activity.{next}
use Rattle.lgp_table.specs.Console.{is_at_rest}
use Rattle.lgp_machine.specs.Answers.{passes_clock_end}
use Rattle.lgp_history.specs.declared.rule.Rule.{Rule}
use Rattle.lgp_debugger.specs.Debugging.{performed}
use Rattle.lgp_debugger.specs.Run.{first_stop, orders_of, run_of}
use Rattle.lgp_stream.specs.KeptLine.{IsFirstLine, Kept, kept_of}
use Rattle.lgp_stream.specs.Language.{state_after}
use Rattle.lgp_stream.specs.Transcript.{Recorded, after_lines, ended, stand_in, with_line, with_state}
use Rattle.lgp_stream.proofs.StandIns.{kept-stand_in}
use Rattle.lgp_command.specs.Command.{command_of, is_comment, text_after_word}
use Rattle.lgp_command.specs.CommandText.{command_text}
use Rattle.lgp_command.specs.Operands.{IsCount}
use Rattle.lgp_command.specs.declared.command.Command.{Command}
use Rattle.lgp_command.specs.declared.command.Command.TheVariants as commands
use Rattle.lgp_script.specs.HistoryCommands.{replied_to_run}
use Rattle.lgp_script.specs.LabState.{Answer, LabState}
use Rattle.lgp_script.specs.MachineCommands.{replied_to_orders}
use Rattle.lgp_script.specs.RunPart.{IsRunPart, orders_of_run}
use Rattle.lgp_script.specs.Script.{answer_to, answer_to_line, is_passed_over, script_language}
use Rattle.lgp_script.specs.declared.run_part.RunPart.{RunPart}
use Rattle.lgp_script.proofs.CommandLaws.{lines_answered as answered_as_command}
use Rattle.lgp_script.proofs.KeptLemmas.{answer_some, line_outside, passed_over_kept}
use Rattle.lgp_script.proofs.RunAgain.{at_end, at_once, goes_on, none}
use Rattle.lgp_moment.specs.Moment.{after_kept, all_orders, command_in, first_orders, lines_to, orders_in}
use Rattle.lgp_moment.specs.MomentInside.{IsOnWay, IsTaken, first_line_of, run_command}

-- ---- fewer orders than a run performs

zero_of : (few : ℕ) (s : State) → few ≡ 0 → orders_of (run_of [] few s) ≡ few
zero_of few s is = rw is (none [] _ s refl)

module _ (rules : List Rule) where
  fewer_so : (limit few : ℕ) (s : State) (rests ends : Bool) (stop : Option ℕ) → is_at_rest s.core.panel.status ≡ rests → passes_clock_end s ≡ ends → first_stop rules s ≡ stop
      → few ≤ orders_of (run_of rules limit s) → orders_of (run_of [] few s) ≡ few
  fewer_so zero few s rests ends stop r e is within = zero_of few s (omega (arith, none rules rests s r, within))
  fewer_so (suc limit) few s true ends stop r e is within = zero_of few s (omega (arith, at_once rules limit s r, within))
  fewer_so (suc limit) few s false true stop r e is within = zero_of few s (omega (arith, at_end rules limit s r e, within))
  fewer_so (suc limit) zero s false false stop r e is within = none [] false s r
  fewer_so (suc limit) (suc few) s false false (Some number) r e is within =
      let small : few ≡ 0 = omega (arith, goes_on rules limit s (Some number) is r e, within) in
      goes_on [] few s None refl r e ∙ ap suc (zero_of few (next s) small)
  fewer_so (suc limit) (suc few) s false false None r e is within =
      let rest : few ≤ orders_of (run_of rules limit (next s)) = omega (arith, goes_on rules limit s None is r e, within) in
      goes_on [] few s None refl r e ∙ ap suc (fewer_so limit few (next s) _ _ _ refl refl refl rest)

  fewer : (limit few : ℕ) (s : State) → few ≤ orders_of (run_of rules limit s) → orders_of (run_of [] few s) ≡ few
  fewer limit few s within = fewer_so limit few s _ _ _ refl refl refl within

abbrev with_orders : LabState → ℕ → LabState
with_orders lab count = record lab { debugger = performed lab.debugger count }

few_orders : (by_rules : Bool) (limit few : ℕ) (lab : LabState) → few ≤ orders_of_run by_rules limit lab → orders_of (run_of [] few lab.debugger.state) ≡ few
unfolding orders_of_run
few_orders true limit few lab within = fewer lab.debugger.rules limit few lab.debugger.state within
few_orders false limit few lab within = fewer [] limit few lab.debugger.state within

after_orders : (lab : LabState) (count : ℕ) → (replied_to_orders lab count).after ≡ with_orders lab (orders_of (run_of [] count lab.debugger.state))
unfolding replied_to_orders
after_orders lab count = refl

-- the line that asks for them
pub orders_line : (by_rules : Bool) (limit few : ℕ) (lab : LabState) → lab.opened ≡ None → IsCount few → few ≤ orders_of_run by_rules limit lab
    → (answer_to_line lab (command_text (commands.Orders few) [])).after ≡ with_orders lab few
orders_line by_rules limit few lab outside count within =
    ap (λ (a : Answer). a.after) (answered_as_command lab (commands.Orders few) [] count outside)
    ∙ (after_orders lab few ∙ ap (with_orders lab) (few_orders by_rules limit few lab within))

-- ---- a line that asks for a run

-- what such a line tells: no source is open, and it is a command
pub record Asks (lab : LabState) (kept : Kept) (command : Command) : Type 0 where
  pub outside : lab.opened ≡ None
  pub short : kept.longer ≡ false
  pub words : (kept.blank || is_comment kept.front) ≡ false
  pub read : command_of kept.front ≡ Some command

none_of : {T : Type 0} (o : Option T) → is_some o ≡ false → o ≡ None
none_of None e = refl
none_of (Some t) e = cc

asks_by : (lab : LabState) (kept : Kept) (command : Command) (opened longer passed : Bool) → is_some lab.opened ≡ opened → kept.longer ≡ longer
    → (kept.blank || is_comment kept.front) ≡ passed → (cond (opened || (longer || passed)) None (command_of kept.front)) ≡ Some command → Asks lab kept command
asks_by lab kept command true longer passed o l p is = cc
asks_by lab kept command false true passed o l p is = cc
asks_by lab kept command false false true o l p is = cc
asks_by lab kept command false false false o l p is = record { outside = none_of lab.opened o; short = l; words = p; read = is }

pub asks : (lab : LabState) (kept : Kept) (command : Command) → command_in lab kept ≡ Some command → Asks lab kept command
unfolding command_in
asks lab kept command is =
    asks_by lab kept command (is_some lab.opened) kept.longer (kept.blank || is_comment kept.front) refl refl refl is

whole_line : (kept : Kept) → kept.longer ≡ false → stand_in kept ≡ kept.front
unfolding stand_in
whole_line kept short = rw short refl

-- it is answered as its command
answered : (lab : LabState) (kept : Kept) (text : List ℕ) (command : Command) → kept ≡ kept_of text → Asks lab kept command
    → answer_to_line lab (stand_in kept) ≡ answer_to lab command (text_after_word kept.front)
answered lab kept text command is ask =
    let line : List ℕ = stand_in kept in
    let same : kept ≡ kept_of line = is ∙ (sym (kept-stand_in text) ∙ ap (λ (k : Kept). kept_of (stand_in k)) (sym is)) in
    let other : is_passed_over line ≡ false = sym (passed_over_kept kept line same) ∙ ask.words in
    line_outside lab line ask.outside ∙ answer_some lab kept line command (text_after_word kept.front) same other ask.short ask.read refl

orders_of_command : (lab : LabState) (by_rules : Bool) (limit : ℕ) (text : List ℕ) → (answer_to lab (run_command by_rules limit) text).after ≡ with_orders lab (orders_of_run by_rules limit lab)
unfolding orders_of_run replied_to_run replied_to_orders
orders_of_command lab true limit text = refl
orders_of_command lab false limit text = refl

-- and does all its orders
pub run_line : (lab : LabState) (kept : Kept) (text : List ℕ) (by_rules : Bool) (limit : ℕ) → kept ≡ kept_of text → command_in lab kept ≡ Some (run_command by_rules limit)
    → (answer_to_line lab (stand_in kept)).after ≡ with_orders lab (orders_of_run by_rules limit lab)
run_line lab kept text by_rules limit is command =
    ap (λ (a : Answer). a.after) (answered lab kept text (run_command by_rules limit) is (asks lab kept (run_command by_rules limit) command))
    ∙ orders_of_command lab by_rules limit (text_after_word kept.front)

pub orders_there : (lab : LabState) (kept : Kept) (by_rules : Bool) (limit : ℕ) → command_in lab kept ≡ Some (run_command by_rules limit) → orders_in lab kept ≡ orders_of_run by_rules limit lab
orders_there lab kept true limit is = rw is refl
orders_there lab kept false limit is = rw is refl

-- ---- lines taken again

after_none : (r : Recorded LabState) → r ≡ after_lines script_language r []
unfolding after_lines
after_none r = ap (λ (t : List ℕ). record { state = r.state; transcript = t }) (sym (append-nil r.transcript))

after_one : (r : Recorded LabState) (s : LabState) (line : List ℕ) → s ≡ (answer_to_line r.state line).after → with_line (with_state r s) line ≡ after_lines script_language r (line ∷ [])
unfolding after_lines
after_one r s line is =
    ap (λ (t : List ℕ). record { state = s; transcript = r.transcript ++ t }) (sym (append-nil (ended line)))
    ∙ ap (λ (s : LabState). record { state = s; transcript = r.transcript ++ (ended line ++ []) }) is

-- the first orders of a run
cut_line : (r : Recorded LabState) (by_rules : Bool) (limit left : ℕ) (new : Recorded LabState) → r.state.opened ≡ None → IsCount left → left ≤ orders_of_run by_rules limit r.state
    → new ≡ first_line_of (with_state r (with_orders r.state left)) left → new ≡ after_lines script_language r (first_orders left)
unfolding performed
cut_line r by_rules limit left new outside count within is = by_zero (left == 0) refl where
  by_zero : (none : Bool) → (left == 0) ≡ none → new ≡ after_lines script_language r (first_orders left)
  by_zero true e =
      let zero : left ≡ 0 = grind (arith, nat_tests) in
      rw e (is ∙ (ap (λ (b : Bool). cond b (with_state r (with_orders r.state left)) (with_line (with_state r (with_orders r.state left)) (command_text (commands.Orders left) []))) e
      ∙ (ap (λ (n : ℕ). with_state r (with_orders r.state n)) zero ∙ after_none r)))
  by_zero false e =
      rw e (is ∙ (ap (λ (b : Bool). cond b (with_state r (with_orders r.state left)) (with_line (with_state r (with_orders r.state left)) (command_text (commands.Orders left) []))) e
      ∙ after_one r (with_orders r.state left) (command_text (commands.Orders left) []) (sym (orders_line by_rules limit left r.state outside count within))))

-- a run that was taken again: its first orders, or all
pub run_taken : (r₀ r₁ r₂ : Recorded LabState) (kept : Kept) (text : List ℕ) (by_rules : Bool) (limit left : ℕ) (s : LabState) (part : RunPart) → kept ≡ kept_of text
    → command_in r₀.state kept ≡ Some (run_command by_rules limit) → IsCount left → IsRunPart by_rules limit left r₀.state s part → r₁ ≡ with_state r₀ s
    → (part.goes_on ≡ true → r₂ ≡ first_line_of r₁ left) → (part.goes_on ≡ false → r₂ ≡ with_line r₁ kept.front) → IsTaken r₀ kept left r₂ part
run_taken r₀ r₁ r₂ kept text by_rules limit left s part is command count done lent cut whole =
    let all = orders_of_run by_rules limit r₀.state in
    let same : orders_in r₀.state kept ≡ all = orders_there r₀.state kept by_rules limit command in
    record {
      orders = done.orders ∙ ap (λ (n : ℕ). min left n) (sym same);
      goes_on = done.goes_on ∙ ap (λ (n : ℕ). nat_lt left n) (sym same);
      after = by_test part.goes_on refl ∙ ap (λ (n : ℕ). after_lines script_language r₀ (cond (nat_lt left n) (first_orders left) (stand_in kept ∷ []))) (sym same);
    } where
      ask : Asks r₀.state kept (run_command by_rules limit)
      ask = asks r₀.state kept (run_command by_rules limit) command

      by_test : (goes : Bool) → part.goes_on ≡ goes → r₂ ≡ after_lines script_language r₀ (cond (nat_lt left (orders_of_run by_rules limit r₀.state)) (first_orders left) (stand_in kept ∷ []))
      by_test true e =
          let all = orders_of_run by_rules limit r₀.state in
          let test : nat_lt left all ≡ true = sym done.goes_on ∙ e in
          let below : left < all = grind (arith, nat_tests) in
          let few : part.orders ≡ left = done.orders ∙ omega (arith, below) in
          let stands : s ≡ with_orders r₀.state left = done.after ∙ ap (with_orders r₀.state) few in
          rw test (cut_line r₀ by_rules limit left r₂ ask.outside count (omega (arith, below)) (cut e ∙ ap (λ (r : Recorded LabState). first_line_of r left) (lent ∙ ap (with_state r₀) stands)))
      by_test false e =
          let all = orders_of_run by_rules limit r₀.state in
          let test : nat_lt left all ≡ false = sym done.goes_on ∙ e in
          let within : all ≤ left = grind (arith, nat_tests) in
          let full : part.orders ≡ all = done.orders ∙ omega (arith, within) in
          let stands : s ≡ (answer_to_line r₀.state (stand_in kept)).after = done.after ∙ (ap (with_orders r₀.state) full ∙ sym (run_line r₀.state kept text by_rules limit is command)) in
          let line : kept.front ≡ stand_in kept = sym (whole_line kept ask.short) in
          rw test (whole e ∙ (ap (λ (r : Recorded LabState). with_line r kept.front) lent ∙ (ap (λ (t : List ℕ). with_line (with_state r₀ s) t) line ∙ after_one r₀ s (stand_in kept) stands)))

module _ (r₀ r₂ : Recorded LabState) (kept : Kept) (text : List ℕ) (by_rules : Bool) (limit left a b : ℕ) (lab s : LabState) (part : RunPart) where
  taken_so : kept ≡ kept_of text → command_in r₀.state kept ≡ Some (run_command by_rules limit) → a ≡ limit → b ≡ left → IsCount b → lab ≡ r₀.state → IsRunPart by_rules a b lab s part
      → (part.goes_on ≡ true → r₂ ≡ first_line_of (with_state r₀ s) left) → (part.goes_on ≡ false → r₂ ≡ with_line (with_state r₀ s) kept.front) → IsTaken r₀ kept left r₂ part
  taken_so is command most few count lent done cut whole =
      run_taken r₀ (with_state r₀ s) r₂ kept text by_rules limit left s part is command (subst IsCount few count)
      (subst (λ (t : LabState). IsRunPart by_rules limit left t s part) lent (subst (λ (n : ℕ). IsRunPart by_rules limit n lab s part) few (subst (λ (n : ℕ). IsRunPart by_rules n b lab s part) most done)))
      refl cut whole

  pub run_cut : kept ≡ kept_of text → command_in r₀.state kept ≡ Some (run_command by_rules limit) → a ≡ limit → b ≡ left → IsCount b → lab ≡ r₀.state → IsRunPart by_rules a b lab s part
      → part.goes_on ≡ true → r₂ ≡ first_line_of (with_state r₀ s) left → IsTaken r₀ kept left r₂ part
  run_cut is command most few count lent done goes after =
      taken_so is command most few count lent done (λ e. after) (λ e. cc)

  pub run_whole : (front : List ℕ) → kept ≡ kept_of text → command_in r₀.state kept ≡ Some (run_command by_rules limit) → a ≡ limit → b ≡ left → IsCount b → lab ≡ r₀.state → IsRunPart by_rules a b lab s part
      → part.goes_on ≡ false → front ≡ kept.front → r₂ ≡ with_line (with_state r₀ s) front → IsTaken r₀ kept left r₂ part
  run_whole front is command most few count lent done ends same after =
      taken_so is command most few count lent done (λ e. cc) (λ e. after ∙ ap (with_line (with_state r₀ s)) same)

-- any other line
pub line_taken : (r₀ r₁ : Recorded LabState) (kept : Kept) (part : RunPart) → orders_in r₀.state kept ≡ 0 → part.orders ≡ 0 → part.goes_on ≡ false
    → r₁ ≡ after_lines script_language r₀ (stand_in kept ∷ []) → (left : ℕ) → IsTaken r₀ kept left r₁ part
line_taken r₀ r₁ kept part none orders goes after left =
    let test : nat_lt left (orders_in r₀.state kept) ≡ false = grind (arith, nat_tests) in
    record {
      orders = orders ∙ omega (arith, none);
      goes_on = goes ∙ sym test;
      after = after ∙ ap (λ (b : Bool). after_lines script_language r₀ (cond b (first_orders left) (stand_in kept ∷ []))) (sym test);
    }

-- ---- lines one after another

after_more : (r : Recorded LabState) (line : List ℕ) (more : List (List ℕ)) → after_lines script_language r (line ∷ more) ≡ after_lines script_language (after_lines script_language r (line ∷ [])) more
unfolding after_lines
after_more r line more =
    let s : LabState = state_after script_language (script_language.after r.state line) more in
    let text : List ℕ = concat (map ended more) in
    ap (λ (t : List ℕ). record { state = s; transcript = t })
    (sym (append_assoc r.transcript (ended line) text) ∙ ap (λ (t : List ℕ). (r.transcript ++ t) ++ text) (sym (append-nil (ended line))))

after_state : (r : Recorded LabState) (line : List ℕ) → (after_lines script_language r (line ∷ [])).state ≡ script_language.after r.state line
unfolding after_lines
after_state r line = refl

abbrev to_moment : Recorded LabState → List (List ℕ) → ℕ → Recorded LabState
to_moment r lines order = after_lines script_language r (lines_to r.state lines order)

taken_within : (r : Recorded LabState) (line : List ℕ) (later : List (List ℕ)) (left : ℕ) → nat_lt left (orders_in r.state (kept_of line)) ≡ true
    → to_moment r (line ∷ later) left ≡ after_lines script_language r (first_orders left)
unfolding lines_to
taken_within r line later left test = rw test refl

taken_whole : (r : Recorded LabState) (line : List ℕ) (later : List (List ℕ)) (left : ℕ) → nat_lt left (orders_in r.state (kept_of line)) ≡ false
    → to_moment r (line ∷ later) left
    ≡ after_lines script_language r (stand_in (kept_of line) ∷ lines_to (after_kept r.state (kept_of line)) later (left - orders_in r.state (kept_of line)))
unfolding lines_to
taken_whole r line later left test = rw test refl

pub all_more : (lab : LabState) (line : List ℕ) (later : List (List ℕ)) → all_orders lab (line ∷ later) ≡ orders_in lab (kept_of line) + all_orders (after_kept lab (kept_of line)) later
unfolding all_orders
all_more lab line later = refl

module _ (r₀ r₁ : Recorded LabState) (text : List ℕ) (kept : Kept) (rest : List ℕ) (left : ℕ) (part : RunPart) (first : IsFirstLine text kept rest) (taken : IsTaken r₀ kept left r₁ part) where
  of_first : IsTaken r₀ (kept_of first.first) left r₁ part
  of_first = subst (λ (k : Kept). IsTaken r₀ k left r₁ part) first.is_kept taken

  abbrev done : ℕ
  done = orders_in r₀.state (kept_of first.first)

  -- it goes on: the moment is within the line
  pub line_cut : part.goes_on ≡ true → r₁ ≡ to_moment r₀ (lines text) left
  line_cut goes =
      let test : nat_lt left done ≡ true = sym of_first.goes_on ∙ goes in
      of_first.after ∙ (ap (λ (b : Bool). after_lines script_language r₀ (cond b (first_orders left) (stand_in (kept_of first.first) ∷ []))) test
      ∙ (sym (taken_within r₀ first.first (lines rest) left test) ∙ ap (λ (ls : List (List ℕ)). to_moment r₀ ls left) (sym first.lines_are)))

  pub cut_left : part.goes_on ≡ true → left - all_orders r₀.state (lines text) ≡ 0
  cut_left goes =
      let test : nat_lt left done ≡ true = sym of_first.goes_on ∙ goes in
      let below : left < done = grind (arith, nat_tests) in
      let sum : all_orders r₀.state (lines text) ≡ done + all_orders (after_kept r₀.state (kept_of first.first)) (lines rest) =
      ap (all_orders r₀.state) first.lines_are ∙ all_more r₀.state first.first (lines rest) in
      omega (arith, below, sum)

  -- it does not
  module _ (ends : part.goes_on ≡ false) where
    test : nat_lt left done ≡ false
    test = sym of_first.goes_on ∙ ends

    within : done ≤ left
    within = let t : nat_lt left done ≡ false = test in grind (arith, nat_tests)

    stood : r₁ ≡ after_lines script_language r₀ (stand_in (kept_of first.first) ∷ [])
    stood = of_first.after ∙ ap (λ (b : Bool). after_lines script_language r₀ (cond b (first_orders left) (stand_in (kept_of first.first) ∷ []))) test

    state : r₁.state ≡ after_kept r₀.state (kept_of first.first)
    state = ap (λ (r : Recorded LabState). r.state) stood ∙ after_state r₀ (stand_in (kept_of first.first))

    less : left - part.orders ≡ left - done
    less = let orders : part.orders ≡ min left done = of_first.orders in omega (arith, orders, within)

    pub few_taken : part.orders ≤ left
    few_taken = let orders : part.orders ≡ min left done = of_first.orders in omega (arith, orders)

    pub line_done : (now : ℕ) → now ≡ left - part.orders → to_moment r₁ (lines rest) now ≡ to_moment r₀ (lines text) left
    line_done now is =
        let later = λ (s : LabState) (n : ℕ). lines_to s (lines rest) n in
        ap (λ (n : ℕ). to_moment r₁ (lines rest) n) (is ∙ less)
        ∙ (ap (λ (s : LabState). after_lines script_language r₁ (later s (left - done))) state
        ∙ (ap (λ (r : Recorded LabState). after_lines script_language r (later (after_kept r₀.state (kept_of first.first)) (left - done))) stood
        ∙ (sym (after_more r₀ (stand_in (kept_of first.first)) (later (after_kept r₀.state (kept_of first.first)) (left - done)))
        ∙ (sym (taken_whole r₀ first.first (lines rest) left test) ∙ ap (λ (ls : List (List ℕ)). to_moment r₀ ls left) (sym first.lines_are)))))

    pub done_left : (now : ℕ) → now ≡ left - part.orders → now - all_orders r₁.state (lines rest) ≡ left - all_orders r₀.state (lines text)
    done_left now is =
        let here : all_orders r₁.state (lines rest) ≡ all_orders (after_kept r₀.state (kept_of first.first)) (lines rest) = ap (λ (s : LabState). all_orders s (lines rest)) state in
        let sum : all_orders r₀.state (lines text) ≡ done + all_orders (after_kept r₀.state (kept_of first.first)) (lines rest) =
        ap (all_orders r₀.state) first.lines_are ∙ all_more r₀.state first.first (lines rest) in
        omega (arith, is, less, here, sum, within)

-- no line is left
pub lines_done : (r : Recorded LabState) (text : List ℕ) (left : ℕ) → length text ≡ 0 → to_moment r (lines text) left ≡ r
unfolding lines_to
lines_done r [] left none = sym (after_none r)
lines_done r (b ∷ text) left none = cc

pub none_left : (lab : LabState) (text : List ℕ) → length text ≡ 0 → all_orders lab (lines text) ≡ 0
unfolding all_orders
none_left lab [] none = refl
none_left lab (b ∷ text) none = cc

-- ---- on the way

pub way_begun : (r : Recorded LabState) (all : List (List ℕ)) (order : ℕ) → IsOnWay r all order r all order
way_begun r all order = record { leads = refl; lacking = refl }

module _ (first r₀ r₁ : Recorded LabState) (all : List (List ℕ)) (order : ℕ) (text : List ℕ) (kept : Kept) (rest : List ℕ) (left : ℕ) (part : RunPart)
    (line : IsFirstLine text kept rest) (taken : IsTaken r₀ kept left r₁ part) (way : IsOnWay first all order r₀ (lines text) left) where
  pub way_on : (now : ℕ) → part.goes_on ≡ false → now ≡ left - part.orders → IsOnWay first all order r₁ (lines rest) now
  way_on now ends is = record {
    leads = line_done r₀ r₁ text kept rest left part line taken ends now is ∙ way.leads;
    lacking = done_left r₀ r₁ text kept rest left part line taken ends now is ∙ way.lacking;
  }

  pub way_cut : part.goes_on ≡ true → (r₁ ≡ to_moment first all order) × (0 ≡ order - all_orders first.state all)
  way_cut goes = (line_cut r₀ r₁ text kept rest left part line taken goes ∙ way.leads, sym (cut_left r₀ r₁ text kept rest left part line taken goes) ∙ way.lacking)

pub way_ended : (first r : Recorded LabState) (all : List (List ℕ)) (order : ℕ) (text : List ℕ) (left : ℕ) → length text ≡ 0 → IsOnWay first all order r (lines text) left
    → (r ≡ to_moment first all order) × (left ≡ order - all_orders first.state all)
way_ended first r all order text left none way =
    let sum : all_orders r.state (lines text) ≡ 0 = none_left r.state text none in
    let same : left - all_orders r.state (lines text) ≡ order - all_orders first.state all = way.lacking in
    (sym (lines_done r text left none) ∙ way.leads, omega (arith, sum, same))

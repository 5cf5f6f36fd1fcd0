-- Part of the public promise: the script language, what is answered to the commands that press,
-- wait, perform orders and show the panel.
use Rattle.std.specs.Prelude.{ℕ, ◌+◌, ◌++◌, not, if◌then◌else◌, nat_lt, ◌==◌, Result, Ok, Err}
use Rattle.std.specs.Prelude.{List, [], length, fold, codes, decimal}
use Rattle.lgp_word.specs.Digits.{address_digits, digits_of}
use Rattle.lgp_table.specs.State.{State}
use Rattle.lgp_table.specs.Console.{is_at_rest, is_live}
use Rattle.lgp_table.specs.declared.action.Action.{Action}
use Rattle.lgp_table.specs.declared.action.Action.TheVariants as actions
use Rattle.lgp_table.specs.declared.panel.Status.{Status}
use Rattle.lgp_machine.specs.Answers.{clock_end}
use Rattle.lgp_machine.specs.Look.{look_of}
use Rattle.lgp_machine.specs.declared.look.Look.{Look}
use Rattle.lgp_history.specs.Step.{Press, Idle}
use Rattle.lgp_debugger.specs.Debugging.{Debugging, after_step, performed}
use Rattle.lgp_debugger.specs.Run.{orders_of, run_of}
use Rattle.lgp_text.specs.PanelWords.{mode_text, on_text, status_text, switches_text}
use Rattle.lgp_script.specs.LabState.{LabState}
use Rattle.lgp_script.specs.Reply.{Replied, leaving, outcome_reply, refusing}
use Rattle.lgp_script.specs.declared.refusal.Refusal.TheVariants as refusals
use Rattle.lgp_script.specs.declared.reply.Reply.TheVariants as replies

-- ---- press, type, turn and orders, each of which is one step or several

abbrev pub typed_text : ℕ → ℕ → List ℕ
typed_text live dead =
    codes "live " ++ (decimal live ++ (codes " dead " ++ (decimal dead ++ codes "\n")))

abbrev pub orders_text : ℕ → Status → List ℕ
orders_text done status =
    codes "orders " ++ (decimal done ++ (codes " " ++ (status_text status ++ codes "\n")))

-- keys struck one after another: how many were live and dead, and the debugger after them
pub record StruckKeys : Type 0 where
  pub live : ℕ
  pub dead : ℕ
  pub after : Debugging

-- a live press is a step, a dead one is none
abbrev pub after_pressing : Debugging → Action → Debugging
after_pressing d action =
    if is_live d.state.core.panel action then after_step d (Press action) else d

abbrev pub replied_to_press : LabState → Action → Replied
replied_to_press lab action =
    leaving (if is_live lab.debugger.state.core.panel action then replies.Live else replies.Dead)
    lab (after_pressing lab.debugger action)

abbrev pub key_struck : StruckKeys → ℕ → StruckKeys
key_struck so_far code =
    let live = is_live so_far.after.state.core.panel (actions.Key code) in
    record {
      live = if live then so_far.live + 1 else so_far.live;
      dead = if live then so_far.dead else so_far.dead + 1;
      after = after_pressing so_far.after (actions.Key code);
    }

unfoldable pub typed : Debugging → List ℕ → StruckKeys
typed d keys = fold key_struck (record { live = 0; dead = 0; after = d }) keys

abbrev pub replied_to_keys : LabState → Result (List ℕ) ℕ → Replied
replied_to_keys lab (Err place) = refusing (refusals.BadSign place) lab
replied_to_keys lab (Ok keys) =
    let struck = typed lab.debugger keys in
    leaving (replies.Struck struck.live struck.dead) lab struck.after

-- word times at rest are one step, none of them is none
unfoldable pub replied_to_turn : LabState → ℕ → Replied
replied_to_turn lab times =
    let d = lab.debugger in
    if not (is_at_rest d.state.core.panel.status) then refusing refusals.AtWork lab
    else (if nat_lt clock_end (d.state.clock + times) then refusing refusals.ClockEnd lab
    else leaving (replies.Clock (d.state.clock + times)) lab
    (if times == 0 then d else after_step d (Idle times)))

-- orders: a run that no rule stops, and the status after it; broken off where the next order would
-- pass the clock's end
unfoldable pub replied_to_orders : LabState → ℕ → Replied
replied_to_orders lab limit =
    let outcome = run_of [] limit lab.debugger.state in
    let after = performed lab.debugger (orders_of outcome) in
    leaving (outcome_reply (λ ran. replies.Orders ran.orders after.state.core.panel.status) outcome)
    lab after

-- ---- panel

-- the panel's line
unfoldable pub registers_text : Look → List ℕ
registers_text look =
    codes "counter "
    ++ (address_digits look.counter ++ (codes " accumulator " ++ (digits_of look.accumulator
    ++ (codes " register " ++ (digits_of look.register
    ++ (codes " status " ++ (status_text look.status
    ++ (codes " mode " ++ (mode_text look.mode ++ codes " switches ")))))))))

unfoldable pub reader_text : Look → ℕ → List ℕ
reader_text look left =
    codes " reader " ++ (on_text look.reader_on ++ (codes " tape " ++ (decimal left
    ++ (codes " clock " ++ (decimal look.clock ++ codes "\n")))))

unfoldable pub panel_text : State → List ℕ
panel_text s =
    registers_text (look_of s)
    ++ (switches_text s.core.panel.switches ++ reader_text (look_of s) (length s.core.tape.left))

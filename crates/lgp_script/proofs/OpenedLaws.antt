-- After every command but one the same source is open, or none.
use Rattle.std.proofs.Common.{◌≡◌, ℕ, Bool, true, false, cond, is_some, Option, Some, None, Result, Ok, Err, List, nat_lt, length, not, refl, ◌==◌, ◌+◌}
use Rattle.std.specs.Option.{option_map_or}
use Rattle.lgp_flexo.specs.TapeText.{codes_of_text}
use Rattle.lgp_table.specs.Console.{is_at_rest}
use Rattle.lgp_machine.specs.Answers.{clock_end}
use Rattle.lgp_history.specs.Hits.{last_hit}
use Rattle.lgp_history.specs.Steps.{orders_in}
use Rattle.lgp_history.specs.declared.rule.Rule.{Rule}
use Rattle.lgp_history.specs.declared.rule.Rule.TheVariants.{At, Changed}
use Rattle.lgp_assembler.specs.Image.{image_of}
use Rattle.lgp_loader.specs.BlockLoading.{longest_load}
use Rattle.lgp_debugger.specs.Debugging.{after_back, rule_limit}
use Rattle.lgp_command.specs.declared.command.Command.{Command}
use Rattle.lgp_command.specs.declared.command.Command.TheVariants as commands
use Rattle.lgp_script.specs.HistoryCommands.{replied_to_back, replied_to_drop, replied_to_last, replied_to_rule, replied_to_run}
use Rattle.lgp_script.specs.LabState.{LabState}
use Rattle.lgp_script.specs.LoadCommand.{replied_to_load, replied_to_tape_load}
use Rattle.lgp_script.specs.MachineCommands.{replied_to_keys, replied_to_orders, replied_to_turn}
use Rattle.lgp_script.specs.Reply.{Replied, leaving, refusing}
use Rattle.lgp_script.specs.Script.{opens_source, replied_to}
use Rattle.lgp_script.specs.TapeCommands.{replied_to_tape}
use Rattle.lgp_script.specs.declared.refusal.Refusal.TheVariants.{NoHit, NoImage}
use Rattle.lgp_script.specs.declared.reply.Reply.TheVariants as replies

abbrev Stays : LabState → Replied → Type 0
Stays lab replied = replied.after.opened ≡ lab.opened

either : (lab : LabState) (test : Bool) (one other : Replied) → Stays lab one → Stays lab other → Stays lab (cond test one other)
either lab true one other first second = first
either lab false one other first second = second

tape : (lab : LabState) (codes : Result (List ℕ) ℕ) → Stays lab (replied_to_tape lab codes)
tape lab (Ok codes) = either lab (is_at_rest lab.debugger.state.core.panel.status) _ _ refl refl
tape lab (Err place) = refl

keys : (lab : LabState) (codes : Result (List ℕ) ℕ) → Stays lab (replied_to_keys lab codes)
keys lab (Ok codes) = refl
keys lab (Err place) = refl

turn : (lab : LabState) (times : ℕ) → Stays lab (replied_to_turn lab times)
unfolding replied_to_turn
turn lab times =
    either lab (not (is_at_rest lab.debugger.state.core.panel.status)) _ _ refl
    (either lab (nat_lt clock_end (lab.debugger.state.clock + times)) _ _ refl refl)

orders : (lab : LabState) (limit : ℕ) → Stays lab (replied_to_orders lab limit)
unfolding replied_to_orders
orders lab limit = refl

loading : (lab : LabState) → Stays lab (replied_to_load lab)
unfolding replied_to_load
loading lab = by_source lab.source where
  by_source : (source : Option (List ℕ)) → Stays lab (option_map_or (λ text. replied_to_tape_load lab (longest_load (image_of text))) source (refusing NoImage lab))
  by_source (Some source) = refl
  by_source None = refl

with_rule : (lab : LabState) (added : Rule) → Stays lab (replied_to_rule lab added)
unfolding replied_to_rule
with_rule lab added = either lab (length lab.debugger.rules == rule_limit) _ _ refl refl

drop : (lab : LabState) (number : ℕ) → Stays lab (replied_to_drop lab number)
unfolding replied_to_drop
drop lab number = either lab (nat_lt number rule_limit) _ _ refl refl

pub run : (lab : LabState) (limit : ℕ) → Stays lab (replied_to_run lab limit)
unfolding replied_to_run
run lab limit = refl

back : (lab : LabState) (orders : ℕ) → Stays lab (replied_to_back lab orders)
unfolding replied_to_back
back lab orders = either lab (nat_lt (orders_in lab.debugger.steps) orders) _ _ refl refl

last : (lab : LabState) → Stays lab (replied_to_last lab)
unfolding replied_to_last
last lab = by_hit (last_hit lab.debugger.rules lab.debugger.steps) where
  by_hit : (hit : Option (ℕ × ℕ)) → Stays lab (option_map_or (λ found. leaving (replies.Hit found.0 found.1) lab (after_back lab.debugger found.0)) hit
      (refusing (NoHit (orders_in lab.debugger.steps)) lab))
  by_hit (Some hit) = refl
  by_hit None = refl

pub opened_stays : (lab : LabState) (command : Command) (text : List ℕ) → opens_source command ≡ false → (replied_to lab command text).after.opened ≡ lab.opened
opened_stays lab (commands.Put address word) text closed = either lab (is_at_rest lab.debugger.state.core.panel.status) _ _ refl refl
opened_stays lab commands.Mount text closed = either lab (nat_lt 4090 (length text)) _ _ refl (tape lab (codes_of_text text))
opened_stays lab (commands.Press action) text closed = refl
opened_stays lab commands.Type text closed = either lab (nat_lt 4091 (length text)) _ _ refl (keys lab (codes_of_text text))
opened_stays lab (commands.Turn times) text closed = turn lab times
opened_stays lab (commands.Orders limit) text closed = orders lab limit
opened_stays lab commands.Panel text closed = refl
opened_stays lab (commands.Words range) text closed = refl
opened_stays lab (commands.Show range) text closed = refl
opened_stays lab commands.Printed text closed = refl
opened_stays lab commands.Dump text closed = refl
opened_stays lab commands.Source text closed = absurd (clash closed) where
  clash : true ≡ false → ⊥
  clash e = cc
opened_stays lab commands.List text closed = either lab (is_some lab.source) _ _ refl refl
opened_stays lab commands.Load text closed = loading lab
opened_stays lab (commands.Break address) text closed = with_rule lab (At address)
opened_stays lab (commands.Watch address) text closed = with_rule lab (Changed address)
opened_stays lab (commands.Drop number) text closed = drop lab number
opened_stays lab (commands.Run limit) text closed = run lab limit
opened_stays lab (commands.Back orders) text closed = back lab orders
opened_stays lab commands.Last text closed = last lab

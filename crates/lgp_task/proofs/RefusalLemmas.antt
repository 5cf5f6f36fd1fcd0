-- The refusal for one fault is a refusal for any faults among which that one is; and what the command lines are: simple.
use Rattle.std.proofs.Common.{◌≡◌, ◌∷◌, [], inl, inr, ap, ◌∙◌, refl, sym, true}
use Rattle.clap.specs.Words.{IsAmong, Kinds, is_simple, is_simple_and_free}
use Rattle.clap.specs.declared.error.kind.ErrorKind.{ErrorKind}
use Rattle.clap.proofs.OnLiterals.{clap_on_literals}
use Rattle.lgp_task.specs.CommandLine.{command_line, monitor_line}
use Rattle.lgp_task.specs.Task.{IsRefusalOf, is_request}
use Rattle.lgp_task.specs.declared.task.TaskFault.{TaskFault}
use Rattle.lgp_task.specs.declared.task.TaskFault.TheVariants.{Usage, Help, Memory}

-- the only one of one fault
the_only : (kind only : ErrorKind) → IsAmong kind (only ∷ []) → kind ≡ only
the_only kind only (inl e) = e
the_only kind only (inr h) = absurd h

pub refusal-among : {A : Type 0} (fault : TaskFault A) (kind : ErrorKind) (kinds : Kinds)
    → IsAmong kind kinds → IsRefusalOf (kind ∷ []) fault → IsRefusalOf kinds fault
refusal-among (Usage text) kind kinds among because =
    (kind, among, ap is_request (sym (the_only _ _ because.1)) ∙ because.2)
refusal-among (Help text) kind kinds among because =
    (kind, among, ap is_request (sym (the_only _ _ because.1)) ∙ because.2)
refusal-among Memory kind kinds among because = tt

pub line-simple : is_simple command_line ≡ true
unfolding command_line clap_on_literals
line-simple = refl

pub line-free : is_simple_and_free command_line ≡ true
unfolding command_line clap_on_literals
line-free = refl

pub monitor-free : is_simple_and_free monitor_line ≡ true
unfolding monitor_line clap_on_literals
monitor-free = refl

pub monitor-simple : is_simple monitor_line ≡ true
unfolding monitor_line clap_on_literals
monitor-simple = refl

-- Part of the public promise. What a load answers, and what it leaves of the machine, whatever its
-- loader and its tape are.
use Rattle.std.specs.Prelude.{◌≡◌, ◌↔◌, ◌+◌, ◌<◌, ◌≤◌, ℕ, false, None, Some, Result, Err, IfOk}
use Rattle.std.specs.Prelude.{OnOk}
use Rattle.lgp_table.specs.Interleaving.{Configuration, at_boundary, is_boundary}
use Rattle.lgp_machine.specs.Answers.{clock_end}
use Rattle.lgp_loader.specs.Loading.{TapeLoad, loaded, loading_cost, loading_stopped}
use Rattle.lgp_loader.specs.declared.loading.LoadFault.{LoadFault}
use Rattle.lgp_loader.specs.declared.loading.LoadFault.TheVariants.{Moving, ClockEnd, Memory}

-- The machine before and after it, and the answer: how many orders the loader performed, or why the
-- program is not loaded.
pub record IsLoad (load : TapeLoad) (before after : Configuration)
    (answer : Result ℕ LoadFault) : Type 0 where
  -- all of the tape has been read, and the clock has gone on by what all activities cost
  pub leaves : OnOk answer (after ≡ at_boundary (loaded before.state load))
  pub time : OnOk answer (after.state.clock ≡ before.state.clock + loading_cost before.state load)
  pub orders : IfOk answer (λ orders. orders ≡ load.orders)
  pub clock : OnOk answer ((loaded before.state load).clock ≤ clock_end)
  pub whole : OnOk answer (loading_stopped before.state load ≡ None)
  -- refused within an activity, and nothing was pressed
  pub moving : (answer ≡ Err Moving) ↔ (is_boundary before ≡ false)
  pub unmoved : answer ≡ Err Moving → after ≡ before
  -- refused for memory, and nothing was pressed
  pub no_memory : answer ≡ Err Memory → after ≡ before
  -- broken off at the first boundary whose activity would pass the clock's end
  pub stands : answer ≡ Err ClockEnd → loading_stopped before.state load ≡ Some after.state
  pub boundary : answer ≡ Err ClockEnd → after ≡ at_boundary after.state
  pub past : answer ≡ Err ClockEnd → clock_end < (loaded before.state load).clock

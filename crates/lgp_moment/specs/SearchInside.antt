-- Serves proofs only: orders of a session that are looked at one after another.
use Rattle.std.specs.Prelude.{◌≡◌, ℕ, zero, suc, ◌+◌, Bool, Option, List}
use Rattle.lgp_table.specs.After.{after}
use Rattle.lgp_table.specs.State.{State}
use Rattle.lgp_when.specs.When.{meets}
use Rattle.lgp_when.specs.declared.condition.Condition.{Condition}
use Rattle.lgp_script.specs.LabState.{LabState}
use Rattle.lgp_stream.specs.KeptLine.{Kept}
use Rattle.lgp_moment.specs.Moment.{after_kept, all_orders, orders_in, state_at}
use Rattle.lgp_moment.specs.Search.{chosen, sought}
use Rattle.lgp_moment.specs.declared.search.Search.{Search}
use Rattle.lgp_moment.specs.declared.search.Which.{Which}

-- what is looked for stays the same
pub record IsSameSearch (old new : Search) : Type 0 where
  pub which : new.which ≡ old.which
  pub condition : new.meeting.condition ≡ old.meeting.condition

-- an order was looked at that began in a state
pub record IsSeen (s : State) (old new : Search) : Type 0 where
  pub same : IsSameSearch old new
  pub orders : new.orders ≡ old.orders + 1
  pub found : new.found
      ≡ chosen old.which (meets s old.meeting.condition) old.orders old.found

-- what is found with some orders more, of which each passes a test or not
unfoldable pub sought_on : Which → ℕ → Option ℕ → (ℕ → Bool) → ℕ → Option ℕ
sought_on which done found passes zero = found
sought_on which done found passes (suc count) =
    chosen which (passes count) (done + count) (sought_on which done found passes count)

-- some orders were looked at, the first of which began in a state
pub record AreLookedAt (s : State) (count : ℕ) (old new : Search) : Type 0 where
  pub same : IsSameSearch old new
  pub orders : new.orders ≡ old.orders + count
  pub found : new.found ≡ sought_on old.which old.orders old.found
      (λ order. meets (after s order) old.meeting.condition) count

-- a line was taken again, and all its orders were looked at
pub record IsSearchedLine (old : LabState) (kept : Kept) (new : LabState) (before after : Search)
    : Type 0 where
  pub state : new ≡ after_kept old kept
  pub looks : AreLookedAt old.debugger.state (orders_in old kept) before after

-- from here the lines that are left have the orders that all lines had from here on, and those before
-- were looked at
pub record IsSearching (first : LabState) (all : List (List ℕ)) (condition : Condition)
    (now : LabState) (rest : List (List ℕ)) (search : Search) : Type 0 where
  pub sought_for : search.meeting.condition ≡ condition
  pub states : (order : ℕ) → state_at first all (search.orders + order) ≡ state_at now rest order
  pub orders : all_orders first all ≡ search.orders + all_orders now rest
  pub found : search.found
      ≡ sought search.which (λ order. meets (state_at first all order) condition) search.orders

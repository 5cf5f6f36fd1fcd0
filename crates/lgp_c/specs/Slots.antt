-- Part of the public promise: what a slot for a session owns.
use Rattle.std.specs.Prelude.{Bool, true, false, Option, Some, None}
use Rattle.std.specs.Box.Ownership.{box_owns}
use Rattle.std.specs.Global.{Global}
use Rattle.std.specs.contracts.alloc.Global as heap
use Rattle.std.specs.contracts.impls.GlobalAllocator.TheImpl.{ghosts}
use Rattle.std.specs.Coded.{coded_option}
use Rattle.std.below.core.specs.contracts.clone.Clone+copy.TheImpl as copied
use base.Fml.{Fml, ftrue, ffalse}
use base.Stored.{Coded}
use denote.RawPtr.{Ptr}
use denote.RattleType.{RattleType}
use Rattle.lgp_call.specs.Session.{SessionState}
use Rattle.lgp_call.specs.contracts.session.Session as session

-- a session over memory from malloc
abbrev pub the_session : RattleType
the_session = session.the_row heap.the_row ghosts (copied.ghosts heap.the_row)

-- an empty slot owns nothing, and an open one the box of its session
abbrev pub slot_owns : Global → Bool → Ptr → Option SessionState → Fml
slot_owns alloc false at None = ftrue
slot_owns alloc true at (Some state) =
    box_owns (ghosts.dealloc_token alloc) the_session at state
slot_owns alloc _ at _ = ffalse

abbrev pub held_coded : Coded (Option SessionState)
held_coded = coded_option the_session.coded

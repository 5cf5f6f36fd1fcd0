-- Part of the public promise: what a slot for a session owns.
use Rattle.std.specs.Prelude.{Bool, true, false, Option, Some, None, []}
use Rattle.std.specs.Borrow.{Bor}
use Rattle.std.specs.Box.Ownership.{box_owns}
use Rattle.std.specs.Coded.{coded_option}
use Rattle.std.specs.contracts.prelude.RefAllocator.TheImpl as lent
use Rattle.std.specs.contracts.prelude.RefClone.TheImpl as copied
use base.Fml.{Fml, ftrue, ffalse}
use base.Stored.{Coded}
use denote.Builtin.{RefOf}
use denote.RawPtr.{Ptr}
use denote.RattleType.{RattleType}
use denote.Signature.{plain, type_at}
use Rattle.lgp_call.specs.Session.{SessionState}
use Rattle.lgp_call.specs.contracts.session.Session as session
use Rattle.lgp_parts.specs.contracts.unfreed.UnfreedAllocator.TheImpl as unfreed
use Rattle.lgp_region.specs.contracts.region.Region as region
use Rattle.lgp_region.specs.contracts.region.RegionAllocator.TheImpl as regions
use Rattle.lgp_region.specs.declared.region.Region.{Region}

-- a reference to a region that lasts as long as the program
abbrev pub the_region : RattleType
the_region = type_at {n = 0} (RefOf [] tt (plain (λ _. region.the_row)) (λ _. tt)) tt

-- a session over such a region
abbrev pub the_session : RattleType
the_session =
    session.the_row the_region
    (lent.ghosts region.the_row regions.ghosts lent.no_dict lent.no_dict)
    (copied.ghosts region.the_row)

-- an empty slot owns nothing, and an open one the box of its session, whose memory goes back to
-- nobody
abbrev pub slot_owns : Bool → Ptr → Option SessionState → Fml
slot_owns false at None = ftrue
slot_owns true at (Some state) =
    box_owns (unfreed.ghosts.dealloc_token (record {})) the_session at state
slot_owns _ at _ = ffalse

abbrev pub held_coded : Coded (Option SessionState)
held_coded = coded_option the_session.coded

use Rattle.std.proofs.Common.{refl}
use Rattle.lgp_assembler.specs.Places.{next_place, has_ended, names_of}
use Rattle.lgp_assembler.proofs.passes.Scan.new.Goals as goal

pub returns : goal.returns
unfolding next_place has_ended names_of
returns g c = record {
  lines_are = refl;
  place_is = refl;
  ended_is = refl;
  names_are = c.new.ensures;
}

use Rattle.lgp_assembler.specs.Places.{is_taken}
use Rattle.lgp_assembler.proofs.surveying.Findings.new.Goals as goal

pub returns-clause-taken : goal.returns-clause-taken
unfolding is_taken
returns-clause-taken g c = record {
  length_is = c.in_ok-none_taken.ensures.size;
  places_are = λ p _. c.in_ok-none_taken.ensures.clear p;
}

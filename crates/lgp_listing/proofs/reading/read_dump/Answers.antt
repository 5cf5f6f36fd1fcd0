use Rattle.std.proofs.Common.{sym, ◌∙◌}
use Rattle.std.proofs.lemmas.Option.{none-some}
use Rattle.lgp_listing.proofs.DumpsReadBack.{dump_faultless, one_drum}
use Rattle.lgp_listing.proofs.reading.read_dump.Goals as goal

pub returns-in-Some-clause-reads : goal.returns-in-Some-clause-reads
returns-in-Some-clause-reads g c = λ words is_drum is.
    absurd (none-some c.in-Some.fault (sym (dump_faultless _ _ is_drum is) ∙ sym c.first_fault.ensures ∙ c.in-Some.is))

pub returns-clause-reads : goal.returns-clause-reads
returns-clause-reads g c = λ words is_drum is.
    one_drum _ _ c.put_lines.ensures.drum is_drum (c.put_lines.ensures.dump ∙ is)

use Rattle.std.proofs.Common.{◌∙◌, refl}
use Rattle.lgp_stream.specs.Transcript.{with_state}
use Rattle.lgp_moment.proofs.SearchLemmas.{run_searched}
use Rattle.lgp_moment.proofs.search.search_run.Goals as goal

pub returns : goal.returns
returns g c = λ text command.
    run_searched c.args.session.now (with_state c.args.session.now c.run_watched.new.self) text c.args.by_rules c.args.limit c.args.limit c.in_ok-run_watched.field-0
    c.args.search.now (record c.args.search.now { meeting = c.new-search.result }) c.run_watched.new.kept c.answers_mut-laboratory.result.now c.run_watched.new.self
    command refl c.answers_mut-laboratory.ensures.value c.in_ok-run_watched.ensures refl (record { which = refl; condition = c.new-search.ensures.condition ∙ c.condition.ensures }) refl refl

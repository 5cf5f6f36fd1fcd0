use Rattle.std.proofs.Common.{◌≤◌, arith}
use Rattle.lgp_stream.specs.Language.{count_limit}
use Rattle.lgp_stream.proofs.StreamLemmas.{HasWrittenBytes-one}
use Rattle.lgp_stream.proofs.stream.write_whole.Goals as goal

pub returns-in-Err-clause-stands : goal.returns-in-Err-clause-stands
returns-in-Err-clause-stands g c =
    let small : c.in-Err.broken.taken ≤ count_limit = omega arith in
    HasWrittenBytes-one _ _ c.args.text.now c.in-Err.broken.taken c.in-Err.ensures.part c.in-Err.ensures.within small

pub returns-in-Err-clause-stopped : goal.returns-in-Err-clause-stopped
returns-in-Err-clause-stopped g c =
    let small : c.in-Err.broken.taken ≤ count_limit = omega arith in
    HasWrittenBytes-one _ _ c.args.text.now c.in-Err.broken.taken c.in-Err.ensures.part c.in-Err.ensures.within small

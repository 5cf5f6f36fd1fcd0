use Rattle.std.proofs.Common.{ap, ◌∙◌, sym, get_or}
use Rattle.std.proofs.lemmas.List.{take_more}
use Rattle.lgp_stream.specs.KeptLine.{Kept, kept_of, kept_push}
use Rattle.lgp_stream.proofs.LineLemmas.{kept_push-kept_of}
use Rattle.lgp_stream.proofs.line.LineBytes.of.Goals as goal

pub loop-byte-preserved : goal.loop-byte-preserved
loop-byte-preserved c =
    let byte = get_or c.args.text.now c.loop-byte.byte-index 0 in
    c.push.ensures
    ∙ (ap (λ (kept : Kept). kept_push kept byte) c.loop-byte.invariant
    ∙ (kept_push-kept_of _ _
    ∙ ap kept_of (sym (take_more _ _ 0 c.loop-byte-test.true))))

use Rattle.std.proofs.Common.{◌≡◌, Err, length, rules, arith}
use Rattle.std.proofs.lemmas.Grind.{common_steps}
use Rattle.lgp_script.specs.Files.{heading}
use Rattle.lgp_script.specs.Script.{script_language}
use Rattle.lgp_script.specs.LabState.{opening_state}
use Rattle.lgp_stream.specs.Language.{fault_after}
use Rattle.lgp_stream.proofs.StreamLemmas.{StandsWritten-heading, StandsWritten-part, StandsWritten-unnamed}
use Rattle.lgp_script.proofs.script.batch_part.Goals as goal

pub returns-in_default-clause-stands : goal.returns-in_default-clause-stands
returns-in_default-clause-stands g c =
    let read = g.R.Feed.remaining c.args.reader.now in
    StandsWritten-unnamed script_language opening_state (heading c.args.name.now) read read (g.W.Sink.contents c.args.writer.now)

pub returns-in_err-write_whole-clause-stands : goal.returns-in_err-write_whole-clause-stands
returns-in_err-write_whole-clause-stands g c =
    let read = g.R.Feed.remaining c.args.reader.now in
    let same : c.from_residual.result ≡ Err c.in_err-write_whole.field-0.0 = search rules in
    let text : c.deref.result.now ≡ heading c.args.name.now = search rules in
    let stop = rw text at c.in_err-write_whole.ensures.stopped in
    rw same (StandsWritten-heading script_language opening_state c.in_err-write_whole.field-0.0 (heading c.args.name.now) read read
    (g.W.Sink.contents c.args.writer.now) (g.W.Sink.contents c.write_whole.new.writer) stop)

pub returns-clause-stands : goal.returns-clause-stands
returns-clause-stands g c =
    let read = g.R.Feed.remaining c.args.reader.now in
    let text : c.deref.result.now ≡ heading c.args.name.now = search rules in
    let written = rw text at c.in_ok-write_whole.ensures.all in
    let same : c.after_bytes.result ≡ fault_after (length (heading c.args.name.now)) c.in-Err.fault = search rules in
    rw same (StandsWritten-part script_language opening_state c.in-Err.fault (heading c.args.name.now) read (g.R.Feed.remaining c.run_script.new.reader)
    (g.W.Sink.contents c.args.writer.now) (g.W.Sink.contents c.write_whole.new.writer) (g.W.Sink.contents c.run_script.new.writer) written c.in-Err.ensures.stands)

pub returns-in-Ok-run_script-clause-text : goal.returns-in-Ok-run_script-clause-text
returns-in-Ok-run_script-clause-text g c = grind (arith, common_steps)

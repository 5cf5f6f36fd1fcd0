use Rattle.lgp_script.specs.Script.{script_language}
use Rattle.lgp_script.specs.LabState.{opening_state}
use Rattle.lgp_stream.proofs.StreamLemmas.{StandsWritten-none}
use Rattle.lgp_script.proofs.script.run_script.Goals as goal

pub returns-in_default-clause-stands : goal.returns-in_default-clause-stands
returns-in_default-clause-stands g c =
    let read = g.R.Feed.remaining c.args.reader.now in
    StandsWritten-none script_language opening_state read read (g.W.Sink.contents c.args.writer.now)

use Rattle.std.proofs.Common.{[], refl}
use Rattle.lgp_desk.specs.declared.writing.Manner.TheVariants.{Echoing}
use Rattle.lgp_desk.proofs.SessionLaws.{session-so}
use Rattle.lgp_desk_tests.specs.Shelf.{drawer_of}
use Rattle.lgp_desk_tests.proofs.desk.known.written_for.Goals as goal

pub returns : goal.returns
returns g c = session-so (λ it. drawer_of it.left) _ c.attend.new.files Echoing [] c.args.typed.now _ _ _ c.attend.result (g.W.Sink.contents c.args.sink.now) (g.W.Sink.contents c.attend.new.writer) c.new-feed.ensures.remaining refl c.attend.ensures

use Rattle.lgp_keyin.proofs.Progress.{IsKeyedSo}
use Rattle.lgp_keyin.proofs.keying.key_in.Given as goal

abbrev pub invariant-loop-word : goal.invariant-loop-word
invariant-loop-word g l =
    IsKeyedSo (g.M.Operate.configuration l.machine) (g.M.Operate.configuration l.fn.machine).state l.fn.base l.words l.word-index l.address

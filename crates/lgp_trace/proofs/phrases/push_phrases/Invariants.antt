use Rattle.std.proofs.Common.{◌≡◌, ◌++◌, drop}
use Rattle.lgp_trace.specs.PhrasesInside.{phrases_text}
use Rattle.lgp_trace.proofs.phrases.push_phrases.Given as goal

abbrev pub invariant-loop-phrase : goal.invariant-loop-phrase
invariant-loop-phrase g l = l.text.items ++ phrases_text (g.L.Labels.label l.labels) (drop l.phrase-index l.phrases) ≡ l.fn.text.items ++ phrases_text (g.L.Labels.label l.labels) l.phrases

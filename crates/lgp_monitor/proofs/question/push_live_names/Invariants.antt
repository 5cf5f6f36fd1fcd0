use Rattle.std.proofs.Common.{◌≡◌, ◌++◌, drop, flat_map}
use Rattle.lgp_text.specs.NamedValues.{pairs_of}
use Rattle.lgp_monitor.specs.Questions.{live_name}
use Rattle.lgp_monitor.proofs.question.push_live_names.Given as goal

abbrev pub invariant-loop-named : goal.invariant-loop-named
invariant-loop-named g l = l.text.items ++ flat_map (live_name l.debugger.state.core.panel) (pairs_of (drop l.named-index l.names)) ≡ l.fn.text.items ++ flat_map (live_name l.debugger.state.core.panel) (pairs_of l.names)

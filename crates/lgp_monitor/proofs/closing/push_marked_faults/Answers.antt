use Rattle.std.proofs.Common.{ap, sym, ◌∙◌, ◌≡◌, ◌+◌, ◌<◌, ◌≤◌, ℕ, List, ◌++◌, length, get_or, drop, flat_map}
use Rattle.std.proofs.lemmas.List.{append_assoc, append-nil, drop_all, drop_more}
use Rattle.lgp_source.specs.Source.{SourceLine, lines_of}
use Rattle.lgp_assembler.specs.declared.refusal.Fault.{Fault}
use Rattle.lgp_monitor.specs.Closing.{marked_fault}
use Rattle.lgp_monitor.proofs.closing.push_marked_faults.Goals as goal

-- the first of the faults that are left, and what is left after it
first-left : (lines : List SourceLine) (faults : List Fault) (i : ℕ) (d : Fault) → i < length faults → flat_map (marked_fault lines) (drop i faults) ≡ marked_fault lines (get_or faults i d) ++ flat_map (marked_fault lines) (drop (i + 1) faults)
first-left lines faults i d within = ap (flat_map (marked_fault lines)) (drop_more faults i d within)

pushed : (lines : List SourceLine) (faults : List Fault) (i : ℕ) (d : Fault) (before after whole : List ℕ) → i < length faults
    → after ≡ before ++ marked_fault lines (get_or faults i d) → before ++ flat_map (marked_fault lines) (drop i faults) ≡ whole
    → after ++ flat_map (marked_fault lines) (drop (i + 1) faults) ≡ whole
pushed lines faults i d before after whole within said so_far =
    ap (λ (text : List ℕ). text ++ flat_map (marked_fault lines) (drop (i + 1) faults)) said
    ∙ append_assoc before (marked_fault lines (get_or faults i d)) (flat_map (marked_fault lines) (drop (i + 1) faults))
    ∙ ap (λ (text : List ℕ). before ++ text) (sym (first-left _ _ i d within))
    ∙ so_far

none-left : (lines : List SourceLine) (faults : List Fault) (i : ℕ) (text whole : List ℕ) → length faults ≤ i → text ++ flat_map (marked_fault lines) (drop i faults) ≡ whole → text ≡ whole
none-left lines faults i text whole past so_far =
    sym (append-nil text) ∙ ap (λ (left : List Fault). text ++ flat_map (marked_fault lines) left) (sym (drop_all i _ past)) ∙ so_far

pub loop-fault-preserved : goal.loop-fault-preserved
loop-fault-preserved g c = record {
  found_in = c.push_marked_fault.ensures.lines;
  so_far = pushed (lines_of c.args.source.now) c.args.faults.now c.loop-fault.fault-index _ c.loop-fault.text.items c.push_marked_fault.new.text.items _ c.loop-fault-test.true c.in_ok-push_marked_fault.ensures.text c.loop-fault.invariant.so_far;
}

pub returns : goal.returns
returns g c =
    none-left (lines_of c.args.source.now) c.args.faults.now c.loop-fault.fault-index c.loop-fault.text.items _ c.loop-fault-test.false c.loop-fault.invariant.so_far

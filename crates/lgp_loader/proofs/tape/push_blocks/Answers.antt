use Rattle.std.proofs.Common.{rules, ◌+◌, drop, slice_index_or, arith}
use Rattle.std.proofs.lemmas.Grind.{common_steps}
use Rattle.lgp_loader.proofs.Cuts.{count_dropped, one_piece_more}
use Rattle.lgp_loader.proofs.tape.push_blocks.Goals as goal

pub loop-count-preserved : goal.loop-count-preserved
loop-count-preserved g c =
    let counts = c.args.counts.now in
    let place = c.loop-count.count-index in
    let (all, is, few) = c.loop-count.invariant in
    let (codes, cuts) = one_piece_more (slice_index_or counts place 0) (drop (place + 1) counts) (drop place counts) c.loop-count.left.now
    c.split_at.result.0.now c.split_at.result.1.now c.loop-count.codes.items c.push_block.new.codes.items _
    (count_dropped counts place (search rules)) all is (search rules) (search rules) (search rules) (search rules) in
    (codes, cuts, search rules)

pub split_at-requires : goal.split_at-requires
split_at-requires g c = grind (arith, common_steps)

pub push_block-requires-clause-some : goal.push_block-requires-clause-some
push_block-requires-clause-some g c = grind (arith, common_steps)

pub returns : goal.returns
returns g c = grind (arith, common_steps)

use Rattle.std.proofs.Common.{◌≡◌, [], ◌++◌, ◌<◌, ◌≤◌, List, ℕ, Err, arith, length, length-append, refl, rules, take}
use Rattle.lgp_desk.specs.Files.{file_limit}
use Rattle.lgp_desk.proofs.FileLemmas.{given-end, given-failed, given-more, some-portion}
use Rattle.lgp_desk.proofs.files.read_whole.Goals as goal

pub reads-init : goal.reads-init
reads-init g c = (([], refl, c.new-text.ensures.items), grind (arith, c.new-text.ensures.items))

pub returns-in_default-clause-given : goal.returns-in_default-clause-given
returns-in_default-clause-given g c =
    given-failed g.F.Files.answer c.args.files.now c.reads.files c.read.new.self c.reads.text.items c.reads.invariant.0 (length c.read.new.buffer) c.in_default.ensures.given c.reads.invariant.1

pub returns-then-count-eq0-clause-given : goal.returns-then-count-eq0-clause-given
returns-then-count-eq0-clause-given g c =
    given-end g.F.Files.answer c.args.files.now c.reads.files c.read.new.self c.reads.text.items c.reads.invariant.0 (length c.read.new.buffer) c.in-Ok.count c.read.new.buffer (grind arith) c.if-count-eq0.true c.in-Ok.ensures.given c.reads.invariant.1

pub returns-then-saturating_add-gt-FILE_LIMIT-clause-given : goal.returns-then-saturating_add-gt-FILE_LIMIT-clause-given
returns-then-saturating_add-gt-FILE_LIMIT-clause-given g c =
    let portion : List ℕ = take c.in-Ok.count c.read.new.buffer in
    let more = given-more g.F.Files.answer c.args.files.now c.reads.files c.read.new.self c.reads.text.items c.reads.invariant.0 (length c.read.new.buffer) portion c.in-Ok.ensures.given
    (some-portion c.in-Ok.count portion c.if-count-eq0.false c.in-Ok.ensures.bound.1) in
    let above : file_limit < length (c.reads.text.items ++ portion) = grind (arith, length-append c.reads.text.items portion, c.in-Ok.ensures.bound.1, c.if-saturating_add-gt-FILE_LIMIT.true, c.saturating_add.ensures, c.len.ensures) in
    (more.0, more.1, (c.reads.text.items ++ portion, more.2, above))

pub reads-preserved : goal.reads-preserved
reads-preserved g c =
    let portion : List ℕ = take c.in-Ok.count c.read.new.buffer in
    let more = given-more g.F.Files.answer c.args.files.now c.reads.files c.read.new.self c.reads.text.items c.reads.invariant.0 (length c.read.new.buffer) portion c.in-Ok.ensures.given
    (some-portion c.in-Ok.count portion c.if-count-eq0.false c.in-Ok.ensures.bound.1) in
    let items : c.extend_from_slice.new.self.items ≡ c.reads.text.items ++ portion = search rules in
    let within : length (c.reads.text.items ++ portion) ≤ file_limit = grind (arith, length-append c.reads.text.items portion, c.in-Ok.ensures.bound.1, c.if-saturating_add-gt-FILE_LIMIT.false, c.saturating_add.ensures, c.len.ensures) in
    rw items (more, within)

pub returns-in_err-extend_from_slice-clause-memory : goal.returns-in_err-extend_from_slice-clause-memory
returns-in_err-extend_from_slice-clause-memory g c =
    let portion : List ℕ = take c.in-Ok.count c.read.new.buffer in
    let more = given-more g.F.Files.answer c.args.files.now c.reads.files c.read.new.self c.reads.text.items c.reads.invariant.0 (length c.read.new.buffer) portion c.in-Ok.ensures.given
    (some-portion c.in-Ok.count portion c.if-count-eq0.false c.in-Ok.ensures.bound.1) in
    let same : c.from_residual.result ≡ Err c.in_err-extend_from_slice.field-0.0 = search rules in
    rw same (more.0, more.1, (c.reads.text.items ++ portion, more.2))

use Rattle.std.proofs.Common.{◌≡◌, ◌∙◌, ◌≤◌, ℕ, List, Some, Ok, Err, ap, length, rules, subst, arith}
use Rattle.lgp_flexo.specs.TapeText.{tape_limit, written_tape}
use Rattle.lgp_exchange.specs.TapeBytes.{first_no_code}
use Rattle.lgp_exchange.specs.declared.code_bytes.BytesFault.TheVariants.{NoCode}
use Rattle.lgp_desk.proofs.FormLemmas.{bytes-bad, bytes-ok, no-fault}
use Rattle.lgp_desk.proofs.file_forms.checked_bytes.Goals as goal

pub returns-in_ok-write_tape_text-in-Ok : goal.returns-in_ok-write_tape_text-in-Ok
returns-in_ok-write_tape_text-in-Ok g c =
    let bytes = c.args.bytes.now in
    let same : c.deref.result.now ≡ bytes = search rules in
    let codes : c.in-Ok.tape.items ≡ bytes = c.in-Ok.ensures.codes in
    let few : length c.in-Ok.tape.items ≤ tape_limit = search (rules, arith) in
    let short : length bytes ≤ tape_limit = subst (λ (xs : List ℕ). length xs ≤ tape_limit) codes few in
    ap Ok (c.in_ok-write_tape_text-in-Ok.ensures.written ∙ ap written_tape same)
    ∙ bytes-ok bytes (λ place e. no-fault c.read_tape_bytes.result c.in-Ok.tape (NoCode place) c.in-Ok.is ((c.read_tape_bytes.ensures.no_code place).1 e)) short

pub returns-in-Err-NoCode : goal.returns-in-Err-NoCode
returns-in-Err-NoCode g c =
    let place = c.in-Err-NoCode.place in
    let bad : first_no_code c.args.bytes.now ≡ Some place = (c.in-Err-NoCode.ensures.no_code place).0 (ap Err c.in-Err-NoCode.field-0-is) in
    rw c.in-Err-NoCode.place-is (bytes-bad c.args.bytes.now place bad)

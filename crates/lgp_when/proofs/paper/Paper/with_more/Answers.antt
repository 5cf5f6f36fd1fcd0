use Rattle.std.proofs.Common.{◌≡◌, ◌-◌, ◌==◌, ℕ, take, drop, length, arith, cond, refl, ap, take_all}
use Rattle.std.proofs.lemmas.List.{length-drop}
use Rattle.std.proofs.lemmas.List.Sums.{sum_by-take-drop}
use Rattle.lgp_when.specs.When.{return_code, rows_in}
use Rattle.lgp_when.proofs.paper.Paper.with_more.Goals as goal

pub returns : goal.returns
returns c =
    let all : rows_in (take (length c.args.printed.now - c.args.self.codes) (drop c.args.self.codes c.args.printed.now)) ≡ rows_in (drop c.args.self.codes c.args.printed.now) = ap rows_in (take_all (length c.args.printed.now - c.args.self.codes) (drop c.args.self.codes c.args.printed.now) (let long = length-drop c.args.self.codes c.args.printed.now in omega (arith, long))) in
    record {
      codes = refl;
      rows = omega (arith, c.requires.first.rows, c.rows_in.ensures, all, sum_by-take-drop (λ (code : ℕ). cond (code == return_code) 1 0) c.args.printed.now c.args.self.codes);
    }

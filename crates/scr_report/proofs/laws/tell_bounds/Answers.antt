use Rattle.std.proofs.Common.{ℕ, ◌<◌, ◌^◌, arith}
use Rattle.std.proofs.lemmas.List.Elements.{All-from_get_or}
use Rattle.scr_report.proofs.laws.tell_bounds.Goals as goal

pub returns-clause-totals : goal.returns-clause-totals
returns-clause-totals c =
    let Small : ℕ → Type 0 = λ total. total < 2 ^ 64 in
    All-from_get_or Small c.args.totals.now 0 (λ i below. omega (arith, c.type_inv.totals i))

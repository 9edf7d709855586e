use Rattle.std.proofs.Common.{◌≡◌, ℕ, List, [], length, replicate, rules, arith}
use Rattle.scr_report.proofs.Counting.{AreTotals-none, AreTotals-all}
use Rattle.scr_crew.proofs.lines.Lines.new.Goals as goal

pub returns-clause-totals : goal.returns-clause-totals
returns-clause-totals g c =
    let names : List (List ℕ) = g.P.Program.verdict_names in
    let totals : List ℕ = c.in_ok-vec.field-0.items in
    let zeros : totals ≡ replicate (length names) 0 = first_of (search rules, cc, grind arith) in
    AreTotals-all names [] 0 totals (omega arith) (AreTotals-none names [] totals zeros)

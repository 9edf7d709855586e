use Rattle.std.proofs.Common.{◌≡◌, ◌+◌, ◌<◌, ◌++◌, ◌∷◌, [], ℕ, List, length, get_or, set, arith, rules, sym, ap, subst}
use Rattle.scr_base.specs.declared.row.Verdict.{Verdict}
use Rattle.scr_plan.specs.declared.given.Given.{Given}
use Rattle.scr_report.specs.Outcome.{totals_of}
use Rattle.scr_crew.proofs.Totals.{counts-named, counts-unnamed, counts-few}
use Rattle.scr_crew.proofs.lines.count.Goals as goal

pub overflow_add-totals : goal.overflow_add-totals
overflow_add-totals c =
    let one : Given = record { number = 0; verdict = c.args.verdict } in
    let few = counts-few c.requires.0 c.requires.1 one c.args.totals.now c.requires.3 c.from-place.result c.if-place-totals.true in
    let short = c.requires.2 in
    omega arith

pub returns-then-place-totals : goal.returns-then-place-totals
returns-then-place-totals c =
    λ names so_far given are same.
    let totals : List ℕ = c.args.totals.now in
    let code : given.verdict.0 ≡ c.args.verdict.0 = ap (λ (v : Verdict). v.0) same in
    let at : c.from-place.result ≡ given.verdict.0 = first_of (cc, search rules, grind arith) in
    subst (λ (k : ℕ). set totals k (get_or totals k 0 + 1) ≡ totals_of names (so_far ++ given ∷ [])) (sym at)
    (counts-named names so_far given totals are (subst (λ (k : ℕ). k < length totals) at c.if-place-totals.true))

pub returns-else-place-totals : goal.returns-else-place-totals
returns-else-place-totals c =
    λ names so_far given are same.
    let code : given.verdict.0 ≡ c.args.verdict.0 = ap (λ (v : Verdict). v.0) same in
    let at : c.from-place.result ≡ given.verdict.0 = first_of (cc, search rules, grind arith) in
    counts-unnamed names so_far given c.args.totals.now are (let beyond = c.if-place-totals.false in omega arith)

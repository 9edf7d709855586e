use Rattle.std.proofs.Common.{◌≡◌, ◌+◌, ◌<◌, ◌≤◌, ℕ, List, Vec, Global, length, get_or, set, replicate, rules, arith, sym, ap, ◌∙◌, subst}
use Rattle.std.proofs.lemmas.List.{get_or_default}
use Rattle.scr_plan.specs.declared.given.Given.{Given}
use Rattle.scr_report.proofs.Counting.{AreTotals, AreTotals-none, AreTotals-named, AreTotals-unnamed, AreTotals-few, AreTotals-all}
use Rattle.scr_report.proofs.totals.totals_of.Goals.{then-place-len, else-place-len}
use Rattle.scr_report.proofs.totals.totals_of.Goals as goal

pub loop-given-init : goal.loop-given-init
loop-given-init c =
    let zeros : c.in_ok-totals.totals.items ≡ replicate (length c.args.names.now) 0 = search rules in
    AreTotals-none c.args.names.now c.args.verdicts.now c.in_ok-totals.totals.items zeros

pub overflow_add-index_mut : goal.overflow_add-index_mut
overflow_add-index_mut c =
    let totals : List ℕ = c.loop-given.totals.items in
    let place : ℕ = c.from-place.result in
    let within : place < length totals = omega (arith, c.if-place-len.true, c.len-in-loop-given.ensures) in
    let value : c.index_mut.result.now ≡ get_or totals place 0 = c.index_mut.ensures.value ∙ get_or_default totals place c.index_mut.result.now 0 within in
    let few = AreTotals-few c.args.names.now c.args.verdicts.now c.loop-given.given-index place totals c.loop-given-test.true within c.loop-given.invariant in
    omega (arith, value, few, c.loop-given-test.true, c.loop-given.auto.given-index-end)

pub loop-given-preserved : goal.loop-given-preserved
loop-given-preserved c =
    let names = c.args.names.now in
    let verdicts : List Given = c.args.verdicts.now in
    let none : Given = record { number = 0; verdict = record { 0 = 0 } } in
    let i : ℕ = c.loop-given.given-index in
    let totals : List ℕ = c.loop-given.totals.items in
    let place : ℕ = c.from-place.result in
    let here : place ≡ (get_or verdicts i none).verdict.0 = c.from-place.ensures in
    let P : List ℕ → Type 0 = λ t. AreTotals names verdicts (i + 1) t in
    elim c.if-place-len.branch [
      | then-place-len w ↦ (
          let within : place < length totals = omega (arith, w.if-place-len.true, c.len-in-loop-given.ensures) in
          let old : w.index_mut.result.now ≡ get_or totals place 0 = w.index_mut.ensures.value ∙ get_or_default totals place w.index_mut.result.now 0 within in
          let written : c.if-place-len.totals.items ≡ set totals place (get_or totals place 0 + 1) =
          ap (λ (v : Vec ℕ Global). v.items) w.totals-is ∙ ap (λ (k : ℕ). set totals place (k + 1)) old in
          subst P (sym written) (AreTotals-named names verdicts i place none totals c.loop-given-test.true here within c.loop-given.invariant))
      | else-place-len w ↦ (
          let kept : c.if-place-len.totals.items ≡ totals = ap (λ (v : Vec ℕ Global). v.items) w.totals-is in
          let beyond : length totals ≤ place = omega (arith, w.if-place-len.false, c.len-in-loop-given.ensures) in
          subst P (sym kept) (AreTotals-unnamed names verdicts i place none totals c.loop-given-test.true here beyond c.loop-given.invariant))
    ]

pub returns : goal.returns
returns c = AreTotals-all c.args.names.now c.args.verdicts.now c.loop-given.given-index c.loop-given.totals.items c.loop-given-test.false c.loop-given.invariant

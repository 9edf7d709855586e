use Rattle.std.proofs.Common.{◌⊎◌, ◌<◌, subst, ◌∙◌, inl, inr, arith}
use Rattle.scr_pcapng.specs.Parts.{TakesUnit}
use Rattle.scr_pcapng.proofs.Taken.{any_on_err}
use Rattle.scr_pcapng.proofs.UnitOptions.{IsLast, IsLast-from, no_unit, not_both, TakesOption-fewer, TakesOption-then, TakesUnit-from}
use Rattle.scr_pcapng.proofs.options.take_unit.Goals as goal
use Rattle.scr_pcapng.proofs.options.take_unit.Goals.{then-loop-left-test+else-matches, in-Another, in_default, else-loop-left-test}

pub returns-in_err-found-clause-fewer : goal.returns-in_err-found-clause-fewer
returns-in_err-found-clause-fewer g c =
    any_on_err _ (TakesOption-fewer _ _ _ _ _ _ _ c.loop-left.invariant.1 c.in_err-found.ensures.fewer)

pub loop-left-preserved : goal.loop-left-preserved
loop-left-preserved g c =
    let invariant = c.loop-left.invariant in
    let within = invariant.0 in
    let less = c.taken-left.ensures in
    let told = c.in_ok-found.ensures in
    elim c.match-matches.branch [
      | in-Another w ↦ (
        omega arith,
        TakesOption-then _ _ _ c.args.order c.args.size c.loop-left.left c.taken-left.result w.in-Another.field-0 c.loop-left.found c.in_ok-found.found
            invariant.1 w.in-Another.is told.taken less,
        told.counts ∙ invariant.2,
      )
      | in_default w ↦ absurd (not_both w.matches-is c.if-matches.true)
    ]

pub returns-in_err-pass_over-clause-fewer : goal.returns-in_err-pass_over-clause-fewer
returns-in_err-pass_over-clause-fewer g c =
    any_on_err _ (TakesOption-fewer _ _ _ _ _ _ _ c.loop-left.invariant.1 c.in_err-pass_over.ensures.fewer)

pub returns-in_default-found : goal.returns-in_default-found
returns-in_default-found g c =
    let invariant = c.loop-left.invariant in
    let last : (c.loop-left.left < 4) ⊎ IsLast c.loop-left.found =
    elim c.loop-left-test.branch [
      | then-loop-left-test+else-matches w ↦ inr (elim w.match-matches.branch [
        | in-Another v ↦ absurd (not_both w.if-matches.false v.matches-is)
        | in_default v ↦ IsLast-from _ v.in_default.not-Another
      ])
      | else-loop-left-test w ↦ inl (let few = w.loop-left-test.false in omega arith)
    ] in
    let unit = no_unit c.loop-left.found c.in_default-found.not-Unit in
    let taken = TakesUnit-from _ _ _ c.args.order c.args.size c.loop-left.left c.loop-left.found invariant.1 c.in_ok-pass_over.ensures.taken last in
    record { taken = subst (TakesUnit _ _ c.args.order c.args.size) unit taken; fewer = tt; stops = tt; counts = c.in_ok-pass_over.ensures.counts ∙ invariant.2 }

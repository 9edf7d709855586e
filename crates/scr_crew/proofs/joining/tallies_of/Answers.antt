use Rattle.std.proofs.Common.{rules, ◌∙◌, ◌≡◌, ◌∷◌, List, Ok, Result, sym, ap, subst}
use Rattle.std.specs.Vec.Iter.{into_iter_items}
use Rattle.scr_plan.specs.declared.counting.CoreCounts.{CoreCounts}
use Rattle.scr_replica.specs.Stops.{Stop}
use Rattle.scr_crew.specs.declared.core_out.CoreTotals.{CoreTotals}
use Rattle.scr_crew.proofs.Answered.{Answered, one_answered, all_answered}
use Rattle.scr_crew.proofs.joining.tallies_of.Goals as goal

pub loop-answer-preserved-in-Ok : goal.loop-answer-preserved-in-Ok
loop-answer-preserved-in-Ok g c =
    λ running count_after plan of.
    let rest : List (Result (CoreTotals g.row.P.Denot g.row.P-Settings.Denot g.row.P-State.Denot) Stop) = into_iter_items c.next.new.self in
    let taken : into_iter_items c.loop-answer.answer-iterator ≡ Ok c.in-Ok.totals ∷ rest = c.in-Some.ensures.steps.0 ∙ ap (λ (it : Result (CoreTotals g.row.P.Denot g.row.P-Settings.Denot g.row.P-State.Denot) Stop). it ∷ rest) c.in-Ok.is in
    subst (λ (xs : List CoreCounts). Answered count_after plan xs c.in-Ok.totals.flows rest) (sym c.in_ok-push-in-Ok.ensures.items)
    (one_answered count_after plan c.loop-answer.cores.items c.loop-answer.flows c.in-Ok.totals rest
    (subst (Answered count_after plan c.loop-answer.cores.items c.loop-answer.flows) taken (c.loop-answer.invariant running count_after plan of)))

pub returns : goal.returns
returns g c =
    λ count_after plan some of.
    all_answered count_after plan c.loop-answer.cores.items c.loop-answer.flows (into_iter_items c.loop-answer.answer-iterator)
    (c.loop-answer.invariant c.if-halted.false count_after plan of) some (search rules)

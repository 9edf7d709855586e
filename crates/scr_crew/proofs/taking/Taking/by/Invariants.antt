-- What comes by the ends so far is made, and the others are still to come.
use Rattle.std.proofs.Common.{List}
use Rattle.std.specs.Vec.Iter.{into_iter_items}
use Rattle.scr_base.specs.declared.row.Row.{Row}
use Rattle.scr_base.specs.declared.row.Verdict.{Verdict}
use Rattle.scr_plan.specs.Plan.{Plan}
use Rattle.scr_crew.specs.Cores.{OfCores}
use Rattle.scr_crew.specs.Verdicts.{IsNewVerdictEnd}
use Rattle.scr_crew.proofs.NewArrivals.{Arrived}
use Rattle.scr_crew.proofs.taking.Taking.by.Given as goal

abbrev pub invariant-loop-end : goal.invariant-loop-end
invariant-loop-end g l =
    (verdict_after : List Row → Row → Verdict) (plan : Plan) → OfCores (IsNewVerdictEnd verdict_after plan) plan.cores l.fn.ends.items
    → Arrived verdict_after plan l.arrivals.items (into_iter_items l.end-iterator)

-- What the thread of a core answers.
use Rattle.std.specs.Prelude.{◌≡◌, ℕ, List, IfOk, Result}
use Rattle.scr_base.specs.declared.row.Row.{Row}
use Rattle.scr_plan.specs.Plan.{Plan}
use Rattle.scr_plan.specs.Counts.{plan_counts}
use Rattle.scr_replica.specs.Stops.{Stop}
use Rattle.scr_replica.specs.OneCore.{entries}
use Rattle.scr_crew.specs.declared.core_out.CoreTotals.{CoreTotals}

-- a core that has come to its end answers its number, its counts, and the one-core entries
pub record IsAnswer {P Settings State : Type 0} (count_after : List Row → ℕ) (plan : Plan) (core : ℕ) (answer : Result (CoreTotals P Settings State) Stop) : Type 0 where
  pub its_core : IfOk answer (λ it. it.core ≡ core)
  pub its_counts : IfOk answer (λ it. it.counts ≡ plan_counts plan core)
  pub its_flows : IfOk answer (λ it. it.flows ≡ entries count_after plan)

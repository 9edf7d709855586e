-- What a run does with the taker of its verdicts.
use Rattle.std.specs.Prelude.{◌≡◌, ℕ, List, map, Result, MatchResult}
use Rattle.std.specs.List.{range_with_len}
use Rattle.scr_base.specs.declared.row.Row.{Row}
use Rattle.scr_base.specs.declared.row.Verdict.{Verdict}
use Rattle.scr_plan.specs.declared.given.Given.{Given}
use Rattle.scr_plan.specs.Counts.{plan_counts}
use Rattle.scr_plan.specs.Plan.{Plan}
use Rattle.scr_replica.specs.OneCore.{verdicts, entries}
use Rattle.scr_crew.specs.declared.joining.Tallies.{Tallies}
use Rattle.scr_crew.specs.declared.run_stop.RunStop.{RunStop}
use Rattle.scr_crew.specs.Takings.{Takings, AreToCome, verdicts_from}

-- verdicts come by the lanes of all cores, and a taker is to take those from the next frame on
pub record IsTaking {T O : Type 0} (IsToTake : T → (before now : O) → (whole rest : List Given) → Type 0)
    (verdict_after : List Row → Row → Verdict) (plan : Plan) (before now : O) (takings : Takings) (taker : T) : Type 0 where
  pub coming : AreToCome verdict_after plan takings
  pub to_take : IsToTake taker before now (verdicts verdict_after plan) (verdicts_from verdict_after plan takings.next)

-- a taker has taken a front of these verdicts, and is to take a rest of which that holds; or it has stopped
pub record HandsOn {T O R : Type 0} (IsToTake : T → (before now : O) → (whole rest : List Given) → Type 0)
    (Stopped : RunStop → (before now : O) → (whole : List Given) → Type 0) (whole : List Given) (before now : O)
    (taker : R → T) (Then : R → (rest : List Given) → Type 0) (result : Result R RunStop) : Type 0 where
  pub each : MatchResult result (λ it. (rest : List Given) × IsToTake (taker it) before now whole rest × Then it rest) (λ stop. Stopped stop before now whole)

-- what the cores of a plan make of it, beside their verdicts
pub record IsTally (count_after : List Row → ℕ) (plan : Plan) (it : Tallies) : Type 0 where
  pub cores : it.cores.items ≡ map (plan_counts plan) (range_with_len 0 plan.cores)
  pub flows : it.flows ≡ entries count_after plan

-- A try of the caller to take a verdict, or a turn of tries.
use Rattle.std.specs.Prelude.{◌≡◌, List, [], Result, MatchResult}
use Rattle.scr_base.specs.declared.row.Row.{Row}
use Rattle.scr_base.specs.declared.row.Verdict.{Verdict}
use Rattle.scr_plan.specs.declared.given.Given.{Given}
use Rattle.scr_plan.specs.Plan.{Plan}
use Rattle.scr_replica.specs.OneCore.{verdicts}
use Rattle.scr_crew.specs.declared.feeding.Tried.{Tried}
use Rattle.scr_crew.specs.declared.feeding.Tried.TheVariants.{Done}
use Rattle.scr_crew.specs.declared.run_stop.RunStop.{RunStop}
use Rattle.scr_crew.specs.Takings.{Takings, verdicts_from}
use Rattle.scr_crew.specs.Takers.{IsTaking}

-- the taker goes on, and where it is done no verdict is left; or it has stopped
pub record HasTried {T O : Type 0} (IsToTake : T → (before now : O) → (whole rest : List Given) → Type 0)
    (Stopped : RunStop → (before now : O) → (whole : List Given) → Type 0)
    (verdict_after : List Row → Row → Verdict) (plan : Plan) (before now : O) (takings : Takings) (taker : T) (result : Result Tried RunStop) : Type 0 where
  pub each : MatchResult result
      (λ tried. IsTaking IsToTake verdict_after plan before now takings taker × (tried ≡ Done → verdicts_from verdict_after plan takings.next ≡ []))
      (λ stop. Stopped stop before now (verdicts verdict_after plan))

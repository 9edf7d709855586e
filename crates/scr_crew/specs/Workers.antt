-- What the cores of a run begin with.
use Rattle.std.specs.Prelude.{◌≡◌, ℕ, List}
use Rattle.scr_base.specs.declared.row.Row.{Row}
use Rattle.scr_base.specs.declared.row.Verdict.{Verdict}
use Rattle.scr_plan.specs.Plan.{Plan}
use Rattle.scr_lane.specs.Messages.{Route, route}
use Rattle.scr_lane.specs.Ends.{End}
use Rattle.scr_log.specs.Passes.{LogsOf}
use Rattle.scr_replica.specs.Replicas.{Begin}
use Rattle.scr_crew.specs.Verdicts.{IsNewVerdictEnd}
use Rattle.scr_crew.specs.declared.workers.Worker.{Worker}

-- the receiving end of the lane of a core, which has taken nothing
pub record IsNewEnd (plan : Plan) (core : ℕ) (end : End Route) : Type 0 where
  pub about : end.about ≡ route plan core
  pub untaken : end.count ≡ 0

-- a core that is about to begin, with a pass from these logs, and with a new end of its verdict lane
pub record IsWorker {P Settings State : Type 0} (verdict_after : List Row → Row → Verdict) (logs : LogsOf) (core : ℕ) (worker : Worker P Settings State) : Type 0 where
  pub of_these : worker.pass.logs ≡ logs
  pub its_core : worker.pass.core ≡ core
  pub begin : Begin worker.lane worker.pass
  pub verdicts : IsNewVerdictEnd verdict_after logs.plan core worker.out.outlet

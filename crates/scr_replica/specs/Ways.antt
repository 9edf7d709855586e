-- A core's way from its begin to its end, turn by turn.
use Rattle.std.specs.Prelude.{◌≡◌, ◌+◌, List, ◌++◌}
use Rattle.scr_base.specs.declared.row.Row.{Row}
use Rattle.scr_base.specs.declared.row.Verdict.{Verdict}
use Rattle.scr_plan.specs.declared.given.Given.{Given}
use Rattle.scr_log.specs.declared.view.Noted.TheVariants.{Halt}
use Rattle.scr_log.specs.Passes.{OfCore}
use Rattle.scr_log.specs.Answers.{EndsWith}
use Rattle.scr_replica.specs.declared.standing.Standing.TheVariants as standing
use Rattle.scr_replica.specs.declared.worker.CoreCause.{CoreCause}
use Rattle.scr_replica.specs.declared.worker.CoreCause.TheVariants.{Halted, OutOfMemory}
use Rattle.scr_replica.specs.declared.worker.Advance.{Advance}
use Rattle.scr_replica.specs.declared.worker.Advance.TheVariants.{On, Waits, Through, Stops}
use Rattle.scr_replica.specs.OneCore.{course, course_up_to}
use Rattle.scr_replica.specs.Replicas.{Replica, IsReplica, Stands}
use Rattle.scr_replica.specs.Turns.{HasMoreLooks}

-- the pass of a core that stops for this cause: without memory it sets the halt word
abbrev pub stopped_by : CoreCause → OfCore → OfCore
stopped_by Halted pass = pass
stopped_by (OutOfMemory error) pass = record pass { halts = pass.halts + 1 }

module _ {State : Type 0} where
  -- only the looks of its pass have grown
  pub record HasWatched (old new : Replica State) : Type 0 where
    pub same : new ≡ record old { pass = record old.pass { looks = new.pass.looks } }
    pub looks : HasMoreLooks old.pass new.pass

module _ {State : Type 0} (StandsFor : State → List Row → Type 0) where
  -- a replica that came this far from a pass
  pub record CameFrom (start : OfCore) (it : Replica State) : Type 0 where
    pub replica : IsReplica it
    pub stands : Stands StandsFor it
    pub of_these : it.pass.logs ≡ start.logs
    pub core : it.pass.core ≡ start.core
    pub looks : HasMoreLooks start it.pass
    pub halts : it.pass.halts ≡ start.halts

module _ {State : Type 0} (StandsFor : State → List Row → Type 0) (verdict_after : List Row → Row → Verdict) where
  -- and has given out its verdicts so far: the outlet awaits the rest
  pub record IsOnItsWay (Awaits : (whole rest : List Given) → Type 0) (start : OfCore) (it : Replica State) : Type 0 where
    pub came : CameFrom StandsFor start it
    pub rest : List Given
    pub parts :
        course verdict_after start.logs.plan start.core
        ≡ course_up_to verdict_after start.logs.plan start.core it.pass.finished ++ rest
    pub awaits : Awaits (course verdict_after start.logs.plan start.core) rest

  -- what a turn leads to
  abbrev pub Leads : (Awaits : (whole rest : List Given) → Type 0) → OfCore → Replica State → Advance → Type 0
  Leads Awaits start it On = IsOnItsWay Awaits start it × (it.standing ≡ standing.Running)
  Leads Awaits start it Waits = IsOnItsWay Awaits start it × (it.standing ≡ standing.Running)
  Leads Awaits start it Through = IsOnItsWay Awaits start it × (it.standing ≡ standing.Ended)
  Leads Awaits start it (Stops cause) = CameFrom StandsFor start it × (cause ≡ Halted → EndsWith start it.pass (Halt 1))

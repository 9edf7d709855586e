-- What the parts of a turn do to a replica.
use Rattle.std.specs.Prelude.{◌≡◌, ℕ, ◌-◌, ◌≤◌, List, Option, Some, None}
use Rattle.scr_base.specs.declared.row.Row.{Row}
use Rattle.scr_base.specs.declared.row.Verdict.{Verdict}
use Rattle.scr_plan.specs.declared.counting.CoreCounts.{CoreCounts}
use Rattle.scr_plan.specs.declared.given.Given.{Given}
use Rattle.scr_plan.specs.FinalEntry.{final_entry}
use Rattle.scr_wire.specs.Lane.{decided}
use Rattle.scr_lane.specs.Messages.{Route}
use Rattle.scr_lane.specs.Ends.{End}
use Rattle.scr_log.specs.Passes.{OfCore}
use Rattle.scr_replica.specs.declared.standing.Standing.{Standing}
use Rattle.scr_replica.specs.declared.heard.Heard.{Heard}
use Rattle.scr_replica.specs.declared.turn.Turn.{Turn}
use Rattle.scr_replica.specs.declared.turn.Turn.TheVariants.{Moved, Verdict as Gives}
use Rattle.scr_replica.specs.Heard.{HasHeard}
use Rattle.scr_replica.specs.Replicas.{Replica, Stands, IsReplica, at_hand}
use Rattle.scr_replica.specs.Turns.{TurnTells, GivesVerdict, HasMoreLooks, given_in}

-- a replica of these parts
abbrev pub replica_of : {State : Type 0} → End Route → OfCore → State → CoreCounts → ℕ → Standing → Replica State
replica_of lane pass state counts lost_to standing = record {
  lane = lane;
  pass = pass;
  state = state;
  counts = counts;
  lost_to = lost_to;
  standing = standing;
}

-- the answer of a turn that has finished a packet, with its verdict, where there is one
abbrev pub turn_of : Option Given → Turn
turn_of None = Moved
turn_of (Some given) = Gives given.number given.verdict

module _ {State : Type 0} where
  -- what it keeps besides: what it has heard, the row of the packet at hand, how far it has finished, and two numbers of the
  -- plan
  pub record Keeps (it : Replica State) (h : Heard) (own : Option Row) (done k history_of : ℕ) : Type 0 where
    pub replica : IsReplica it
    pub heard : HasHeard it.pass.logs.plan it.pass.core it.lane.count h
    pub earlier : decided it.pass.logs.plan it.pass.core (it.lane.count - 1) ≤ it.pass.finished
    pub row : it.pass.published ≡ at_hand it → own ≡ final_entry it.pass.logs.plan it.pass.core (at_hand it)
    pub finished : done ≡ it.pass.finished
    pub cores : k ≡ it.pass.logs.plan.cores
    pub history : history_of ≡ it.pass.logs.plan.history
    pub few_lost : it.lost_to ≤ it.pass.logs.plan.cores

  -- it has only looked
  pub record HasOnlyLooked (old new : Replica State) : Type 0 where
    pub lane : new.lane ≡ record old.lane { looks = new.lane.looks }
    pub pass : new.pass ≡ record old.pass { noted = new.pass.noted; looks = new.pass.looks }
    pub looks : HasMoreLooks old.pass new.pass
    pub state : new.state ≡ old.state
    pub counts : new.counts ≡ old.counts
    pub lost_to : new.lost_to ≡ old.lost_to
    pub standing : new.standing ≡ old.standing

  -- a turn that finishes no packet
  pub record Rests (old new : Replica State) (answer : Turn) : Type 0 where
    pub state : new.state ≡ old.state
    pub finished : new.pass.finished ≡ old.pass.finished
    pub none : given_in answer ≡ None
    pub tells : TurnTells old new answer

  -- a turn
  pub record IsTurn (StandsFor : State → List Row → Type 0) (verdict_after : List Row → Row → Verdict) (old new : Replica State)
      (answer : Turn) : Type 0 where
    pub stands : Stands StandsFor new
    pub verdict : GivesVerdict verdict_after old new answer
    pub tells : TurnTells old new answer

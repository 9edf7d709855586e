-- A core in a thread, as it stands between two turns: the end of its lane and its pass, and the state that it keeps.
use Rattle.std.specs.Prelude.{◌≡◌, ℕ, ◌+◌, ◌<◌, ◌≤◌, List, None}
use Rattle.scr_base.specs.declared.row.Row.{Row}
use Rattle.scr_plan.specs.declared.counting.CoreCounts.{CoreCounts}
use Rattle.scr_plan.specs.Plan.{Plan, frame_count}
use Rattle.scr_plan.specs.Delivered.{core_number}
use Rattle.scr_plan.specs.FinalEntry.{final_entry}
use Rattle.scr_plan.specs.Counts.{counts_up_to}
use Rattle.scr_wire.specs.Lane.{decided}
use Rattle.scr_lane.specs.Messages.{Route, route, message_count}
use Rattle.scr_lane.specs.Ends.{End}
use Rattle.scr_log.specs.Passes.{OfCore, IsLogs}
use Rattle.scr_replica.specs.declared.standing.Standing.{Standing}
use Rattle.scr_replica.specs.declared.standing.Standing.TheVariants.{Ended}
use Rattle.scr_replica.specs.OneCore.{kept_rows}

-- `lost_to` counts the cores that were seen to have lost the packet at hand, in the order of asking
pub record Replica (State : Type 0) : Type 0 where
  pub lane : End Route
  pub pass : OfCore
  pub state : State
  pub counts : CoreCounts
  pub lost_to : ℕ
  pub standing : Standing

-- the packet at hand, behind those that it has finished
abbrev pub at_hand : {State : Type 0} → Replica State → ℕ
at_hand it = it.pass.finished + 1

-- the core that is asked for packet p behind i others: the one whose turn it was comes first
abbrev pub asked : Plan → (p i : ℕ) → ℕ
asked plan p i = core_number plan.cores (p + i)

-- it took its whole lane and finished all packets
abbrev pub IsThrough : {State : Type 0} → Replica State → Type 0
IsThrough it = (it.lane.count ≡ message_count it.lane.about) × (it.pass.finished ≡ frame_count it.pass.logs.plan)

-- what is true of every replica: it has published no more than its messages decide, and at most one packet more than it has
-- finished; its counts are those up to there
pub record IsReplica {State : Type 0} (it : Replica State) : Type 0 where
  pub is_logs : IsLogs it.pass.logs
  pub core : it.pass.core < it.pass.logs.plan.cores
  pub its_lane : it.lane.about ≡ route it.pass.logs.plan it.pass.core
  pub published : it.pass.published ≤ decided it.pass.logs.plan it.pass.core it.lane.count
  pub finished : it.pass.finished ≤ it.pass.published
  pub one_more : it.pass.published ≤ it.pass.finished + 1
  pub counts : it.counts ≡ counts_up_to it.pass.logs.plan it.pass.core it.pass.finished
  pub lost : (i : ℕ) → i < it.lost_to → final_entry it.pass.logs.plan (asked it.pass.logs.plan (at_hand it) i) (at_hand it) ≡ None
  pub through : it.standing ≡ Ended → IsThrough it

-- its state stands for the kept packets up to the one that it has finished
abbrev pub Stands : {State : Type 0} → (StandsFor : State → List Row → Type 0) → Replica State → Type 0
Stands StandsFor it = StandsFor it.state (kept_rows it.pass.logs.plan it.pass.finished)

-- the end of a lane and a pass that a core begins with: both are of one plan and one core, and nothing was done by them
pub record Begin (lane : End Route) (pass : OfCore) : Type 0 where
  pub its_lane : lane.about ≡ route pass.logs.plan pass.core
  pub untaken : lane.count ≡ 0
  pub unpublished : pass.published ≡ 0
  pub unfinished : pass.finished ≡ 0

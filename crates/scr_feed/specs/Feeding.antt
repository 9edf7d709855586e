-- What a feed of the lanes of a plan has done so far.
use Rattle.std.specs.Prelude.{◌≡◌, ℕ, ◌<◌, ◌≤◌, Bool, true, List, All, length, drop, slice_index_or, if◌then◌else◌}
use Rattle.std.specs.List.{AllZip}
use Rattle.scr_plan.specs.Plan.{Plan, IsPlan}
use Rattle.scr_wire.specs.declared.message.Message.{Message}
use Rattle.scr_wire.specs.Spelling.{Spells}
use Rattle.scr_wire.specs.Lane.{lane, lane_so_far, last_step}
use Rattle.scr_lane.specs.Messages.{Route, route}
use Rattle.scr_lane.specs.Ends.{End}
use Rattle.scr_feed.specs.Left.{Left, left_for}

-- the plan, how many of its steps were taken and whether the end was, the ends of the lanes, core by core, and what of all
-- that isn't sent yet
pub record Feeding : Type 0 where
  pub plan : Plan
  pub taken : ℕ
  pub ended : Bool
  pub ends : List (End Route)
  pub left : Left

-- the messages that are due in the lane of a core: what the steps taken add to it, and the end where it was taken
abbrev pub due : Feeding → (core : ℕ) → List Message
due feed core = if feed.ended then lane feed.plan core else lane_so_far feed.plan core feed.taken

-- of the messages that are due this end has sent the first, and the others are left, in order
pub record IsFed (route : Route) (due : List Message) (left : List (List ℕ)) (end : End Route) : Type 0 where
  pub about : end.about ≡ route
  pub sent : end.count ≤ length due
  pub in_order : AllZip Spells (drop end.count due) left

-- what is true of every feed
pub record IsFeeding (feed : Feeding) : Type 0 where
  pub plan : IsPlan feed.plan
  pub within : feed.taken ≤ last_step feed.plan
  pub all_taken : feed.ended ≡ true → feed.taken ≡ last_step feed.plan
  pub each_core : length feed.ends ≡ feed.plan.cores
  pub cores : All (λ it. it.core < feed.plan.cores) feed.left.frames
  pub fed :
      (core : ℕ) (end : End Route) → core < feed.plan.cores
      → IsFed (route feed.plan core) (due feed core) (left_for feed.left core) (slice_index_or feed.ends core end)

-- each lane has all its messages
abbrev pub IsWhole : Feeding → Type 0
IsWhole feed =
    (core : ℕ) (end : End Route) → core < feed.plan.cores
    → (slice_index_or feed.ends core end).count ≡ length (lane feed.plan core)

-- New lanes of a plan.
use Rattle.std.specs.Prelude.{◌≡◌, ℕ, ◌<◌, List, length, slice_index_or}
use Rattle.scr_plan.specs.Plan.{Plan}
use Rattle.scr_lane.specs.Messages.{Route, route}
use Rattle.scr_lane.specs.Ends.{End, begun}

-- the two ends of one lane, which have done nothing yet
pub record AreEnds (route : Route) (capacity : ℕ) (send receive : End Route) : Type 0 where
  pub one_lane : send.lane ≡ receive.lane
  pub new_send : send ≡ begun send.lane route capacity
  pub new_receive : receive ≡ begun receive.lane route capacity

-- the ends of the lanes of the first cores, core by core
pub record AreLanes (plan : Plan) (capacity count : ℕ) (sends receives : List (End Route)) : Type 0 where
  pub all_sends : length sends ≡ count
  pub all_receives : length receives ≡ count
  pub each :
      (core : ℕ) (send receive : End Route) → core < count
      → AreEnds (route plan core) capacity (slice_index_or sends core send) (slice_index_or receives core receive)

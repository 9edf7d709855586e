-- Two plans of the same run: they have as many cores, as long a history and as many packets, the same frames are delivered
-- and the same packets are kept, with the same rows. Of a packet that isn't kept no core ever sees the row.
use Rattle.std.specs.Prelude.{◌≡◌, ℕ, true}
use Rattle.scr_plan.specs.Plan.{Plan, frame_count, row_of_packet}
use Rattle.scr_plan.specs.Delivered.{delivers}
use Rattle.scr_plan.specs.Kept.{keeps}

pub record IsSameRun (plan other : Plan) : Type 0 where
  pub cores : other.cores ≡ plan.cores
  pub history : other.history ≡ plan.history
  pub count : frame_count other ≡ frame_count plan
  pub delivered : (n : ℕ) → delivers other n ≡ delivers plan n
  pub kept : (p : ℕ) → keeps other p ≡ keeps plan p
  pub rows : (p : ℕ) → keeps plan p ≡ true → row_of_packet other p ≡ row_of_packet plan p

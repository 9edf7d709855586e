-- When a late frame comes before all that has a number above its own, told by numbers alone. It says the same as the
-- order of the lane, which is the definition.
use Rattle.std.specs.Prelude.{◌≡◌, ℕ, ◌+◌, ◌≤◌, Bool, true, ◌&&◌, ◌||◌, not, ◌==◌, nat_lt}
use Rattle.scr_plan.specs.Link.{Link, loses, delays_by}
use Rattle.scr_plan.specs.Plan.{Plan, frame_count}
use Rattle.scr_plan.specs.Order.{has_beacon, core_number}

-- whether a frame comes before the late ones of a step: it comes at an earlier step, or is the step's own
abbrev pub comes_before : Link → (frame step : ℕ) → Bool
comes_before link frame step =
    not (loses link frame)
    && (nat_lt (frame + delays_by link frame) step || ((frame == step) && (delays_by link frame == 0)))

-- whatever comes before the late frames of this step has no number above n: no beacon, and no frame of the same core
pub record IsAhead (plan : Plan) (n step : ℕ) : Type 0 where
  pub beacons : (at : ℕ) → has_beacon at ≡ true → at ≤ step → at ≤ frame_count plan → at ≤ n
  pub frames : (frame : ℕ) → 1 ≤ frame → frame ≤ frame_count plan → core_number plan.cores frame ≡ core_number plan.cores n
      → comes_before plan.link frame step ≡ true → frame ≤ n

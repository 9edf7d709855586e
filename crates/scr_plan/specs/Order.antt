-- The order of a lane: the beacons and frames that a core is sent over a whole run, as numbers. They go step by step, from
-- 1 to the last frame's number. A step adds first a beacon, where 256 numbers are through, then its own frame, where that
-- is sent, goes to this core and has no delay, and then the earlier frames whose delay ends here, in growing order. Behind
-- the last frame's step follow as many as the greatest delay, without beacons, for the frames that are still under way. A
-- frame that comes twice stands twice, the copies side by side. So every lane has every beacon, and no beacon has the
-- number of the last frame.
use Rattle.std.specs.Prelude.{ℕ, ◌+◌, ◌-◌, ◌%◌, Bool, ◌&&◌, not, List, [], ◌∷◌, ◌++◌, ◌==◌, nat_lt, nat_le, if◌then◌else◌}
use Rattle.std.specs.List.{flat_map, range_with_len}
use Rattle.scr_plan.specs.Limits.{beacon_distance}
use Rattle.scr_plan.specs.Delays.{greatest_delay}
use Rattle.scr_plan.specs.Link.{loses, repeats, delays_by}
use Rattle.scr_plan.specs.Plan.{Plan, frame_count}

-- a beacon or a frame, with its number
pub data Item : Type 0 where
  Beacon : ℕ → Item
  Frame : ℕ → Item

-- whether frame n is sent: it is one of the frames, and isn't lost
unfoldable pub sends : Plan → (n : ℕ) → Bool
sends plan n = nat_le 1 n && (nat_le n (frame_count plan) && not (loses plan.link n))

-- the core of a frame: they take turns
abbrev pub core_number : (cores n : ℕ) → ℕ
core_number cores n = (n - 1) % cores

-- the step at which frame n comes
abbrev pub comes_at : Plan → (n : ℕ) → ℕ
comes_at plan n = n + delays_by plan.link n

-- frame n, twice where the link repeats it
abbrev pub copies : Plan → (n : ℕ) → List Item
copies plan n = if repeats plan.link n then Frame n ∷ Frame n ∷ [] else Frame n ∷ []

-- frame n, where it is sent to this core and comes at this step
unfoldable pub frame_at : Plan → (core step n : ℕ) → List Item
frame_at plan core step n =
    if sends plan n && ((core_number plan.cores n == core) && (comes_at plan n == step)) then copies plan n else []

-- the frames that come at a step: its own, and the earlier ones
unfoldable pub frames_at : Plan → (core step : ℕ) → List Item
frames_at plan core step = frame_at plan core step step ++ flat_map (frame_at plan core step) (range_with_len 1 (step - 1))

-- whether a beacon comes at a step: 256 numbers are through, or 512, and so on
abbrev pub has_beacon : (step : ℕ) → Bool
has_beacon step = nat_lt 1 step && ((step - 1) % beacon_distance == 0)

unfoldable pub beacon_at : Plan → (step : ℕ) → List Item
beacon_at plan step = if has_beacon step && nat_le step (frame_count plan) then Beacon (step - 1) ∷ [] else []

-- what a step adds to the lane of a core
abbrev pub items_at : Plan → (core step : ℕ) → List Item
items_at plan core step = beacon_at plan step ++ frames_at plan core step

-- what the steps from 1 to n add
unfoldable pub items_to : Plan → (core n : ℕ) → List Item
items_to plan core n = flat_map (items_at plan core) (range_with_len 1 n)

-- the whole order, behind which the end comes
abbrev pub order : Plan → (core : ℕ) → List Item
order plan core = items_to plan core (frame_count plan + greatest_delay)

-- what number n adds where the link does nothing: the beacon, and then the frame, where it goes to this core
abbrev pub plain_at : Plan → (core n : ℕ) → List Item
plain_at plan core n = beacon_at plan n ++ (if core_number plan.cores n == core then Frame n ∷ [] else [])

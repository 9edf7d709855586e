-- A list of delays: the frames that come later, and by how many steps.
use Rattle.std.specs.Prelude.{◌≢◌, ℕ, ◌<◌, ◌≤◌, List, [], ◌∷◌, All, length, slice_index_or, ◌==◌, if◌then◌else◌}
use Rattle.scr_plan.specs.Drops.{greatest_number, most_ranges}
use Rattle.scr_plan.specs.declared.delays.FrameDelay.{FrameDelay}

-- the greatest delay
abbrev pub greatest_delay : ℕ
greatest_delay = 1000

-- the delay of frame n, and 0 where the list doesn't have it
unfoldable pub delay_of : List FrameDelay → (n : ℕ) → ℕ
delay_of [] n = 0
delay_of (it ∷ delays) n = if it.frame == n then it.steps else delay_of delays n

-- the numbers of a delay, each within its bounds
pub record IsDelay (it : FrameDelay) : Type 0 where
  pub frame : 1 ≤ it.frame
  pub frame_above : it.frame ≤ greatest_number
  pub steps : 1 ≤ it.steps
  pub steps_above : it.steps ≤ greatest_delay

-- what is true of every list of delays: no frame stands in it twice
pub record IsDelayList (delays : List FrameDelay) : Type 0 where
  pub each : All IsDelay delays
  pub few : length delays ≤ most_ranges
  pub once : (i j : ℕ) (d : FrameDelay) → i < j → j < length delays
      → (slice_index_or delays i d).frame ≢ (slice_index_or delays j d).frame

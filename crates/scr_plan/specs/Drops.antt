-- A drop list: the frames that are not delivered, as ranges of frame numbers.
use Rattle.std.specs.Prelude.{◌≡◌, ℕ, ◌+◌, ◌-◌, ◌*◌, ◌%◌, ◌≤◌, Bool, ◌&&◌, List, All, length, ◌==◌, nat_le}
use Rattle.std.specs.List.{list_any}
use Rattle.scr_plan.specs.declared.drops.DropRange.{DropRange}

-- the greatest number that a range may name, and how many ranges a list may have
abbrev pub greatest_number : ℕ
greatest_number = 1000000000

abbrev pub most_ranges : ℕ
most_ranges = 256

-- a range has a number: it is the first one, or one or more steps above it, and it isn't above the last one
abbrev pub IsOfRange : DropRange → ℕ → Type 0
IsOfRange range n = (steps : ℕ) × (n ≡ range.first + steps * range.step) × (n ≤ range.last)

-- the same as a test
abbrev pub range_has : DropRange → ℕ → Bool
range_has range n = nat_le range.first n && (nat_le n range.last && ((n - range.first) % range.step == 0))

-- whether one of the ranges has a number
unfoldable pub has_number : List DropRange → ℕ → Bool
has_number ranges n = list_any (λ range. range_has range n) ranges

-- the numbers of a range, each within its bounds
pub record IsRange (range : DropRange) : Type 0 where
  pub first : 1 ≤ range.first
  pub order : range.first ≤ range.last
  pub last : range.last ≤ greatest_number
  pub step : 1 ≤ range.step
  pub step_above : range.step ≤ greatest_number

-- what is true of every drop list
pub record IsDropList (ranges : List DropRange) : Type 0 where
  pub each : All IsRange ranges
  pub few : length ranges ≤ most_ranges

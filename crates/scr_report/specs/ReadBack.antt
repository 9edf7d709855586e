-- Which reports are read back as they were written.
use Rattle.std.specs.Prelude.{◌≡◌, ◌≢◌, ℕ, ◌<◌, ◌≤◌, List, [], ◌∷◌, false, All, length, ◌==◌}
use Rattle.std.specs.List.{list_any}
use Rattle.scr_plan.specs.declared.given.Given.{Given}
use Rattle.scr_plan.specs.Limits.{most_cores}
use Rattle.scr_report.specs.Text.{name_at}
use Rattle.scr_report.specs.Outcome.{Outcome}

-- no two names are the same, and none holds a line feed
pub record ArePlain (names : List (List ℕ)) : Type 0 where
  pub differ : (i k : ℕ) → i < k → k < length names → name_at names i ≢ name_at names k
  pub no_feeds : (i : ℕ) → i < length names → list_any (λ byte. byte == 10) (name_at names i) ≡ false

-- frames are numbered from above a number on, in growing order
abbrev pub Grow : ℕ → List Given → Type 0
Grow last [] = Unit {0}
Grow last (given ∷ others) = (last < given.number) × Grow given.number others

-- each verdict is the place of a name, and there is a total for each name
pub record FitsNames (names : List (List ℕ)) (outcome : Outcome) : Type 0 where
  pub verdicts : All (λ given. given.verdict.0 < length names) outcome.verdicts
  pub a_total_each : length outcome.totals ≡ length names

-- a report that fits plain names, has at most 16 cores, and numbers its frames from 1 on
pub record IsPlain (names : List (List ℕ)) (outcome : Outcome) : Type 0 where
  pub fits : FitsNames names outcome
  pub plain : ArePlain names
  pub few_cores : length outcome.cores ≤ most_cores
  pub grow : Grow 0 outcome.verdicts

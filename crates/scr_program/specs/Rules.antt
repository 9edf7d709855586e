-- What a packet program says, whichever it is: the row of a frame that came at a time, the verdict of a row that comes
-- after others, how many flows there are after some rows, and the names of the verdicts.
use Rattle.std.specs.Prelude.{ℕ, List}
use Rattle.scr_base.specs.declared.row.Row.{Row}
use Rattle.scr_base.specs.declared.row.Verdict.{Verdict}
use Rattle.scr_frame.specs.declared.parsed.Parsed.{Parsed}
use Rattle.scr_program.specs.Folds.{verdict_after, count_after}

pub record Rules : Type 0 where
  pub row_of : Parsed → ℕ → Row
  pub verdict_after : List Row → Row → Verdict
  pub count_after : List Row → ℕ
  pub names : List (List ℕ)

-- the rules that are made of these parts
abbrev pub ruled_by : (Parsed → ℕ → Row) → (List Row → Row → Verdict) → (List Row → ℕ) → List (List ℕ) → Rules
ruled_by row_of verdict_after count_after names =
    record { row_of = row_of; verdict_after = verdict_after; count_after = count_after; names = names }

-- the rules of a program that is the fold of its step on a list of flows
abbrev pub rules_of_step : {Flow : Type 0} → (Parsed → ℕ → Row) → (List Flow → Row → List Flow × Verdict) → List (List ℕ) → Rules
rules_of_step row_of step names = ruled_by row_of (verdict_after step) (count_after step) names

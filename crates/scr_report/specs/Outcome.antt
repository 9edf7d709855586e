-- The outcome of a run, and its report.
use Rattle.std.specs.Prelude.{ℕ, List, [], ◌∷◌, ◌++◌, Bool, length, map, count_by, ◌==◌, if◌then◌else◌}
use Rattle.std.specs.List.{concat, zip, enumerate_from, range_with_len}
use Rattle.scr_plan.specs.declared.given.Given.{Given}
use Rattle.scr_plan.specs.declared.counting.CoreCounts.{CoreCounts}
use Rattle.scr_report.specs.Text.{verdict_line, frames_line, core_line, flows_line, total_line}

-- what a report tells: the verdicts in the order of the frames; the counts of frames, of delivered frames and of kept
-- packets; the counts of each core; the flows of the last state; how often each name was given
pub record Outcome : Type 0 where
  pub verdicts : List Given
  pub frames : ℕ
  pub delivered : ℕ
  pub kept : ℕ
  pub cores : List CoreCounts
  pub flows : ℕ
  pub totals : List ℕ

-- a line for each verdict
abbrev pub verdict_lines : List (List ℕ) → Outcome → List (List ℕ)
verdict_lines names outcome = map (verdict_line names) outcome.verdicts

-- the counters: a line for the frames, one for each core, one for the flows, and one for each name
abbrev pub counter_lines : List (List ℕ) → Outcome → List (List ℕ)
counter_lines names outcome =
    frames_line outcome.frames outcome.delivered outcome.kept ∷ (map core_line (enumerate_from 0 outcome.cores)
    ++ flows_line outcome.flows ∷ map total_line (zip names outcome.totals))

-- all lines
abbrev pub report_lines : List (List ℕ) → Outcome → List (List ℕ)
report_lines names outcome = verdict_lines names outcome ++ counter_lines names outcome

-- the report, with the lines of the verdicts or without
abbrev pub report_text : List (List ℕ) → Outcome → Bool → List ℕ
report_text names outcome with_verdicts =
    concat (map (verdict_line names) (if with_verdicts then outcome.verdicts else []) ++ counter_lines names outcome)

-- how often the name at a place was given, and how often each name was
abbrev pub total_of : List Given → ℕ → ℕ
total_of verdicts place = count_by (λ given. given.verdict.0 == place) verdicts

abbrev pub totals_of : List (List ℕ) → List Given → List ℕ
totals_of names verdicts = map (total_of verdicts) (range_with_len 0 (length names))

-- the outcome of these verdicts and counts
abbrev pub report_of : List (List ℕ) → List Given → (frames delivered kept : ℕ) → List CoreCounts → ℕ → Outcome
report_of names verdicts frames delivered kept cores flows = record {
  verdicts = verdicts;
  frames = frames;
  delivered = delivered;
  kept = kept;
  cores = cores;
  flows = flows;
  totals = totals_of names verdicts;
}

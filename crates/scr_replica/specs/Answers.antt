-- What the cores of a run answer: the verdicts, the counts and the number of entries of one core, and of all together.
use Rattle.std.specs.Prelude.{ℕ, List, map}
use Rattle.std.specs.List.{range_with_len}
use Rattle.scr_base.specs.declared.row.Row.{Row}
use Rattle.scr_base.specs.declared.row.Verdict.{Verdict}
use Rattle.scr_plan.specs.declared.counting.CoreCounts.{CoreCounts}
use Rattle.scr_plan.specs.declared.given.Given.{Given}
use Rattle.scr_plan.specs.Plan.{Plan}
use Rattle.scr_plan.specs.Counts.{plan_counts}
use Rattle.scr_replica.specs.declared.gathered.CoreTally.{CoreTally}
use Rattle.scr_replica.specs.OneCore.{course, verdicts, entries}

pub record CoreAnswer : Type 0 where
  pub core : ℕ
  pub verdicts : List Given
  pub counts : CoreCounts
  pub flows : ℕ

pub record Answer : Type 0 where
  pub verdicts : List Given
  pub cores : List CoreCounts
  pub flows : ℕ

-- the verdicts of each core, in order
abbrev pub courses : (List Row → Row → Verdict) → Plan → List (List Given)
courses verdict_after plan = map (course verdict_after plan) (range_with_len 0 plan.cores)

-- what a core should answer beside its verdicts: its counts, and the one-core entries
abbrev pub core_tally : (count_after : List Row → ℕ) → Plan → (core : ℕ) → CoreTally
core_tally count_after plan core = record { core = core; counts = plan_counts plan core; flows = entries count_after plan }

module _ (verdict_after : List Row → Row → Verdict) (count_after : List Row → ℕ) (plan : Plan) where
  -- what a core should answer: the one-core verdicts at its frames, its counts, and the one-core entries
  abbrev pub core_answer : (core : ℕ) → CoreAnswer
  core_answer core = record {
    core = core;
    verdicts = course verdict_after plan core;
    counts = plan_counts plan core;
    flows = entries count_after plan;
  }

  -- what each core should answer, in order
  abbrev pub core_answers : List CoreAnswer
  core_answers = map core_answer (range_with_len 0 plan.cores)

  -- what all of them should answer together
  abbrev pub answer : Answer
  answer = record {
    verdicts = verdicts verdict_after plan;
    cores = map (plan_counts plan) (range_with_len 0 plan.cores);
    flows = entries count_after plan;
  }

-- The report of a run, from the records of its capture or the plan of its stream: the one-core answer over the packets that delivered frames
-- carry, and the counters. The lines of cores depend on cores, history and link; where no frame comes later, all else
-- depends on history and link alone.
use Rattle.std.specs.Prelude.{ℕ, Bool, true, List, [], map}
use Rattle.std.specs.List.{range_with_len}
use Rattle.scr_base.specs.declared.row.Row.{Row}
use Rattle.scr_frame.specs.declared.parsed.Parsed.{Parsed}
use Rattle.scr_frame.specs.Fields.{fields}
use Rattle.scr_pcap.specs.Records.{Record}
use Rattle.scr_plan.specs.Counts.{delivered_count, kept_count, plan_counts}
use Rattle.scr_plan.specs.Plan.{Plan, frame_count}
use Rattle.scr_replica.specs.OneCore.{verdicts, entries, undivided}
use Rattle.scr_report.specs.Outcome.{Outcome, report_of, report_text}
use Rattle.scr_stream.specs.Streamed.{streamed}
use Rattle.scr_words.specs.declared.settings.Shape.{Shape}
use Rattle.scr_run.specs.Rules.{Rules}

-- the rows of these records
abbrev pub rows_of : (Parsed → ℕ → Row) → List Record → List Row
rows_of row_of records = map (λ r. row_of (fields r.content) r.time) records

-- the plan of a run with this shape
abbrev pub shaped : Shape → List Row → Plan
shaped shape rows = record { rows = rows; cores = shape.cores; history = shape.history; link = shape.link }

-- what comes of a plan
abbrev pub outcome_of : Rules → Plan → Outcome
outcome_of rules plan = report_of rules.names (verdicts rules.verdict_after plan)
    (frame_count plan)
    (delivered_count plan)
    (kept_count plan)
    (map (plan_counts plan) (range_with_len 0 plan.cores))
    (entries rules.count_after plan)

-- the report of a plan, with the lines of the verdicts or without
abbrev pub plan_text : Rules → Bool → Plan → List ℕ
plan_text rules with_verdicts plan = report_text rules.names (outcome_of rules plan) with_verdicts

-- the report of a run with this shape
abbrev pub shaped_text : Rules → Shape → Bool → List Record → List ℕ
shaped_text rules shape with_verdicts records = plan_text rules with_verdicts (shaped shape (rows_of rules.row_of records))

-- the stream of a run with this shape, of the program with this number
abbrev pub sprayed_text : (code : ℕ) → Rules → Shape → List Record → List ℕ
sprayed_text code rules shape records = streamed code (shaped shape (rows_of rules.row_of records))

-- the report without cores: every frame is delivered, and every packet kept
abbrev pub plain_text : Rules → List Record → List ℕ
plain_text rules records =
    report_text rules.names (record (outcome_of rules (undivided (rows_of rules.row_of records))) { cores = [] }) true

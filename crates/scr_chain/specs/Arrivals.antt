-- Frames as they come, and what a program says of them by its rules.
use Rattle.std.specs.Prelude.{ℕ, ◌<◌, ◌^◌, List, map}
use Rattle.scr_base.specs.declared.row.Row.{Row}
use Rattle.scr_base.specs.declared.row.Verdict.{Verdict}
use Rattle.scr_frame.specs.declared.parsed.Parsed.{Parsed}
use Rattle.scr_program.specs.Rules.{Rules}

-- the fields of a frame are no wider than their places in a row
pub record HasWidths (frame : Parsed) : Type 0 where
  pub destination_port : frame.destination_port < 2 ^ 16
  pub protocol : frame.protocol < 2 ^ 8
  pub flags : frame.flags < 2 ^ 8
  pub family : frame.family < 2 ^ 8

-- a frame, and the time that it came at
pub record Arrival : Type 0 where
  pub frame : Parsed
  pub time : ℕ
  pub widths : HasWidths frame

-- the row that a program makes of a frame
abbrev pub own_row : Rules → Arrival → Row
own_row rules arrival = rules.row_of arrival.frame arrival.time

-- at rows that are made so: a program's verdict on a frame that comes after others, and how many flows it has after these
abbrev pub verdict_at : (Arrival → Row) → Rules → List Arrival → Arrival → Verdict
verdict_at row rules before arrival = rules.verdict_after (map row before) (row arrival)

abbrev pub count_at : (Arrival → Row) → Rules → List Arrival → ℕ
count_at row rules arrivals = rules.count_after (map row arrivals)

-- the same at the program's own rows
abbrev pub verdict_on : Rules → List Arrival → Arrival → Verdict
verdict_on rules = verdict_at (own_row rules) rules

abbrev pub count_on : Rules → List Arrival → ℕ
count_on rules = count_at (own_row rules) rules

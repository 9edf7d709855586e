-- Which bytes spell a report, by the lines of the bytes and the lines of the report; and where other bytes go wrong.
use Rattle.std.specs.Prelude.{◌≡◌, ◌≢◌, ℕ, ◌+◌, ◌-◌, ◌<◌, ◌≤◌, ◌^◌, List, [], ◌∷◌, ◌++◌, All, length, take, ◌==◌, if◌then◌else◌, Result, Ok, Err}
use Rattle.std.specs.List.{onto_first}
use Rattle.scr_plan.specs.declared.given.Given.{Given}
use Rattle.scr_plan.specs.declared.counting.CoreCounts.{CoreCounts}
use Rattle.scr_plan.specs.Limits.{most_cores}
use Rattle.scr_report.specs.declared.report.ReportError.{ReportError}
use Rattle.scr_report.specs.declared.report.ReportError.TheVariants.{Line, Ended, OutOfMemory}
use Rattle.scr_report.specs.Text.{name_at}
use Rattle.scr_report.specs.Outcome.{Outcome, report_lines}

-- the lines of some bytes, each with its line feed, which the last one may lack
abbrev pub lines_in : List ℕ → List (List ℕ)
lines_in [] = []
lines_in (byte ∷ bytes) = if byte == 10 then (10 ∷ []) ∷ lines_in bytes else onto_first byte (lines_in bytes)

-- a place is the first one of its name
pub record IsFirstOfName (names : List (List ℕ)) (place : ℕ) : Type 0 where
  pub within : place < length names
  pub first : (earlier : ℕ) → earlier < place → name_at names earlier ≢ name_at names place

-- a verdict may stand behind those of frames up to a number
pub record MayFollow (names : List (List ℕ)) (last : ℕ) (given : Given) : Type 0 where
  pub above : last < given.number
  pub fits : given.number < 2 ^ 32
  pub named : IsFirstOfName names given.verdict.0

-- verdicts may stand there one behind the other
abbrev pub FollowOn : List (List ℕ) → ℕ → List Given → Type 0
FollowOn names last [] = Unit {0}
FollowOn names last (given ∷ others) = MayFollow names last given × FollowOn names given.number others

-- the counts of a core are within 32 bits
pub record AreCounts (counts : CoreCounts) : Type 0 where
  pub delivered : counts.delivered < 2 ^ 32
  pub carried : counts.carried < 2 ^ 32
  pub recovered : counts.recovered < 2 ^ 32
  pub skipped : counts.skipped < 2 ^ 32

-- what a report may tell: frames with verdicts are numbered from 1 on, in growing order; a verdict is the first of its
-- name; there are at most 16 cores, and a total for each name; flows and totals are within 64 bits, all else within 32
pub record IsReadable (names : List (List ℕ)) (outcome : Outcome) : Type 0 where
  pub verdicts : FollowOn names 0 outcome.verdicts
  pub frames : outcome.frames < 2 ^ 32
  pub delivered : outcome.delivered < 2 ^ 32
  pub kept : outcome.kept < 2 ^ 32
  pub few_cores : length outcome.cores ≤ most_cores
  pub cores : All AreCounts outcome.cores
  pub flows : outcome.flows < 2 ^ 64
  pub a_total_each : length outcome.totals ≡ length names
  pub totals : All (λ total. total < 2 ^ 64) outcome.totals

-- bytes spell a report: they have its lines
pub record SpellsReport (names : List (List ℕ)) (bytes : List ℕ) (outcome : Outcome) : Type 0 where
  pub readable : IsReadable names outcome
  pub lines : lines_in bytes ≡ report_lines names outcome

-- lines are allowed one behind the other: some report begins with them
pub record Begins (names : List (List ℕ)) (lines : List (List ℕ)) : Type 0 where
  pub outcome : Outcome
  pub others : List (List ℕ)
  pub readable : IsReadable names outcome
  pub parts : report_lines names outcome ≡ lines ++ others

-- this line, from 1, is the first that isn't allowed behind those before it
pub record IsBadLine (names : List (List ℕ)) (bytes : List ℕ) (number : ℕ) : Type 0 where
  pub from : 1 ≤ number
  pub to : number ≤ length (lines_in bytes)
  pub before : Begins names (take (number - 1) (lines_in bytes))
  pub refused : Begins names (take number (lines_in bytes)) → ⊥

-- all lines are allowed, and this one is missing behind them
pub record IsEndedAt (names : List (List ℕ)) (bytes : List ℕ) (number : ℕ) : Type 0 where
  pub behind : number ≡ length (lines_in bytes) + 1
  pub before : Begins names (lines_in bytes)
  pub not_spelled : (outcome : Outcome) → SpellsReport names bytes outcome → ⊥

-- what some bytes are read as; want of memory says nothing of them
abbrev pub ReadsAs : List (List ℕ) → List ℕ → Result Outcome ReportError → Type 0
ReadsAs names bytes (Ok outcome) = SpellsReport names bytes outcome
ReadsAs names bytes (Err (Line number)) = IsBadLine names bytes number
ReadsAs names bytes (Err (Ended number)) = IsEndedAt names bytes number
ReadsAs names bytes (Err (OutOfMemory want)) = Unit {0}

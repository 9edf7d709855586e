-- The parts of a report's text, as the reader comes to them.
use Rattle.std.specs.Prelude.{◌≡◌, ◌≢◌, ℕ, ◌+◌, ◌<◌, ◌≤◌, ◌^◌, Bool, false, List, [], ◌∷◌, ◌++◌, All, length, map, decimal}
use Rattle.std.specs.List.{slice_index_or, zip, enumerate_from}
use Rattle.std.specs.Char.{is_ascii_digit}
use Rattle.scr_plan.specs.declared.given.Given.{Given}
use Rattle.scr_plan.specs.declared.counting.CoreCounts.{CoreCounts}
use Rattle.scr_plan.specs.Limits.{most_cores}
use Rattle.scr_report.specs.declared.report.ReportError.{ReportError}
use Rattle.scr_report.specs.declared.report.ReportError.TheVariants.{Line, Ended}
use Rattle.scr_report.specs.Text.{name_at, verdict_line, frames_line, core_line, flows_line, total_line}
use Rattle.scr_report.specs.Grammar.{lines_in, MayFollow, FollowOn, AreCounts}

-- the first line of a text
abbrev pub first_line : List ℕ → List ℕ
first_line text = slice_index_or (lines_in text) 0 []

-- whether a text begins with a digit
abbrev pub begins_with_digit : List ℕ → Bool
begins_with_digit [] = false
begins_with_digit (byte ∷ text) = is_ascii_digit byte

-- a text is a label, a number and what stands behind all digits
pub record IsLabelled (label : List ℕ) (greatest : ℕ) (text : List ℕ) (number : ℕ) (rest : List ℕ) : Type 0 where
  pub parts : text ≡ label ++ (decimal number ++ rest)
  pub fits : number ≤ greatest
  pub ends : begins_with_digit rest ≡ false

-- where a reader stands: the text from the current line on, and the number of that line from 1
pub record Cursor : Type 0 where
  pub text : List ℕ
  pub number : ℕ

-- a reader has gone past some lines
pub record GoesPast (old new : Cursor) (lines : List (List ℕ)) : Type 0 where
  pub parts : lines_in old.text ≡ lines ++ lines_in new.text
  pub count : new.number ≡ old.number + length lines

-- the error where the current line isn't the one that is wanted
abbrev pub refusal_at : List ℕ → ℕ → ReportError
refusal_at [] number = Ended number
refusal_at (byte ∷ text) number = Line number

-- the number of the last frame of some verdicts
abbrev pub last_number : ℕ → List Given → ℕ
last_number last [] = last
last_number last (given ∷ others) = last_number given.number others

-- all verdict lines were read: the current line is none that may follow
pub record ReadsVerdicts (names : List (List ℕ)) (old new : Cursor) (verdicts : List Given) : Type 0 where
  pub follow : FollowOn names 0 verdicts
  pub past : GoesPast old new (map (verdict_line names) verdicts)
  pub no_more : (given : Given) → MayFollow names (last_number 0 verdicts) given → first_line new.text ≢ verdict_line names given

-- the frames line was read
pub record ReadsFrames (old new : Cursor) (frames delivered kept : ℕ) : Type 0 where
  pub frames_fit : frames < 2 ^ 32
  pub delivered_fit : delivered < 2 ^ 32
  pub kept_fit : kept < 2 ^ 32
  pub past : GoesPast old new (frames_line frames delivered kept ∷ [])

-- the current line is no frames line
pub record LacksFrames (old : Cursor) (error : ReportError) : Type 0 where
  pub error_is : error ≡ refusal_at old.text old.number
  pub none : (frames delivered kept : ℕ) → frames < 2 ^ 32 → delivered < 2 ^ 32 → kept < 2 ^ 32
      → first_line old.text ≢ frames_line frames delivered kept

-- all core lines were read
pub record ReadsCores (old new : Cursor) (cores : List CoreCounts) : Type 0 where
  pub few : length cores ≤ most_cores
  pub each : All AreCounts cores
  pub past : GoesPast old new (map core_line (enumerate_from 0 cores))
  pub no_more : length cores < most_cores → (counts : CoreCounts) → AreCounts counts
      → first_line new.text ≢ core_line (length cores, counts)

-- the flows line was read
pub record ReadsFlows (old new : Cursor) (flows : ℕ) : Type 0 where
  pub flows_fit : flows < 2 ^ 64
  pub past : GoesPast old new (flows_line flows ∷ [])

-- the current line is no flows line
pub record LacksFlows (old : Cursor) (error : ReportError) : Type 0 where
  pub error_is : error ≡ refusal_at old.text old.number
  pub none : (flows : ℕ) → flows < 2 ^ 64 → first_line old.text ≢ flows_line flows

-- the lines of the first names were read
pub record ReadsTotals (names : List (List ℕ)) (old new : Cursor) (totals : List ℕ) : Type 0 where
  pub few : length totals ≤ length names
  pub each : All (λ total. total < 2 ^ 64) totals
  pub past : GoesPast old new (map total_line (zip names totals))

-- the current line isn't that of the next name
pub record LacksTotal (names : List (List ℕ)) (old new : Cursor) (error : ReportError) : Type 0 where
  pub totals : List ℕ
  pub read : ReadsTotals names old new totals
  pub few : length totals < length names
  pub error_is : error ≡ refusal_at new.text new.number
  pub none : (total : ℕ) → total < 2 ^ 64 → first_line new.text ≢ total_line (name_at names (length totals), total)

-- A chain of two programs: two folds and a filter. The first program takes all rows. The second takes those that the
-- first lets pass, and its verdict counts there; the others are stopped.
use Rattle.std.specs.Prelude.{◌≡◌, ◌<◌, ℕ, true, false, ◌+◌, ◌-◌, ◌^◌, min, Bool, ◌||◌, List, [], ◌∷◌, ◌++◌, length, bit_or, slice_index_or, if◌then◌else◌, codes}
use Rattle.std.specs.Str.{bytes_eq}
use Rattle.std.proofs.Common.{arith}
use Rattle.std.proofs.lemmas.List.{length-append}
use Rattle.scr_base.specs.declared.row.Row.{Row}
use Rattle.scr_base.specs.declared.row.Verdict.{Verdict}
use Rattle.scr_program.specs.Rules.{Rules, ruled_by}

-- a verdict of this name lets its packet pass
abbrev pub lets_go_on : List ℕ → Bool
lets_go_on name = bytes_eq name (codes "PASS") || bytes_eq name (codes "OTHER")

-- the same of a verdict, by the names of its program
abbrev pub lets_pass : List (List ℕ) → Verdict → Bool
lets_pass names verdict = lets_go_on (slice_index_or names verdict.0 [])

-- What is stopped has a verdict of its own behind all of the second program, which has these names.
abbrev pub STOPPED : List (List ℕ) → Verdict
STOPPED second_names = record { 0 = length second_names }

-- The first program, by its names and the verdict of a row after others. (Of rows, or of what else has a verdict.)
module _ {X : Type 0} (names : List (List ℕ)) (first : List X → X → Verdict) where
  -- a row that comes after others, where it lets it pass
  abbrev pub if_passing : (before : List X) → X → List X
  if_passing before row = if lets_pass names (first before row) then row ∷ [] else []

  -- of rows that come after others, those that it lets pass
  abbrev pub passing_after : (before rows : List X) → List X
  passing_after before [] = []
  passing_after before (row ∷ rows) = if_passing before row ++ passing_after (before ++ row ∷ []) rows

  -- of all rows, those that it lets pass
  abbrev pub passing : List X → List X
  passing rows = passing_after [] rows

  -- the verdict of a row that comes after these rows: that of the second program, where the row passes
  abbrev pub chained_verdict : (second_names : List (List ℕ)) → (List X → X → Verdict) → List X → X → Verdict
  chained_verdict second_names second rows row =
      if lets_pass names (first rows row) then second (passing rows) row else STOPPED second_names

  -- how many entries both programs have after these rows; the sum stops at the last number of 64 bits
  abbrev pub chained_count : (first_count second_count : List X → ℕ) → List X → ℕ
  chained_count first_count second_count rows = min (first_count rows + second_count (passing rows)) (2 ^ 64 - 1)

-- the names of the verdicts: those of the second program, and one more
abbrev pub chained_names : List (List ℕ) → List (List ℕ)
chained_names second_names = second_names ++ codes "STOPPED" ∷ []

-- the row of both programs: their rows joined word by word
abbrev pub joined : Row → Row → Row
joined first second = record {
  w0 = bit_or first.w0 second.w0;
  w1 = bit_or first.w1 second.w1;
  w2 = bit_or first.w2 second.w2;
  w3 = bit_or first.w3 second.w3;
  w4 = bit_or first.w4 second.w4;
  w5 = bit_or first.w5 second.w5;
  w6 = bit_or first.w6 second.w6;
}

-- the rules of a chain, from those of its two programs
abbrev pub chained : Rules → Rules → Rules
chained first second = ruled_by
    (λ frame time. joined (first.row_of frame time) (second.row_of frame time))
    (chained_verdict first.names first.verdict_after second.names second.verdict_after)
    (chained_count first.names first.verdict_after first.count_after second.count_after)
    (chained_names second.names)

-- by the code of each verdict, whether it lets a packet pass
abbrev pub IsPassTable : List (List ℕ) → List Bool → Type 0
IsPassTable names passes = (code : ℕ) (d : Bool) → code < length names → slice_index_or passes code d ≡ lets_pass names (record { 0 = code })

-- each verdict of a chain has a name
pub chained-named : (names : List (List ℕ)) (first : List Row → Row → Verdict) (second_names : List (List ℕ)) (second : List Row → Row → Verdict)
    → ((rows : List Row) (row : Row) → (second rows row).0 < length second_names) → (rows : List Row) (row : Row)
    → (chained_verdict names first second_names second rows row).0 < length (chained_names second_names)
chained-named names first second_names second named rows row =
    let more : length (chained_names second_names) ≡ length second_names + 1 = length-append second_names (codes "STOPPED" ∷ []) in
    let IsNamed : Verdict → Type 0 = λ verdict. verdict.0 < length (chained_names second_names) in
    let below : (second (passing names first rows) row).0 < length second_names = named (passing names first rows) row in
    elim (lets_pass names (first rows row)) as (λ b. IsNamed (if b then second (passing names first rows) row else STOPPED second_names)) [
      | true ↦ omega arith
      | false ↦ omega arith
    ]

-- The rows in the frames of a plan are those of its packets.
use Rattle.std.proofs.Common.{◌≡◌, ◌⊎◌, ℕ, zero, suc, ◌+◌, ◌-◌, ◌<◌, ◌≤◌, Bool, true, false, cond, not, List, [], ◌∷◌, ◌++◌, length, take, drop, All, Option, Some, None, refl, sym, ap, subst, ◌∙◌, inl, inr, arith, leb}
use Rattle.std.specs.Prelude.{slice_get}
use Rattle.std.proofs.lemmas.Bool.{cases_lt}
use Rattle.std.proofs.lemmas.Bool.Decides.{nat_tests}
use Rattle.std.proofs.lemmas.List.{length-drop, length-take-le}
use Rattle.std.proofs.lemmas.List.Elements.{All-drop, All-take}
use Rattle.scr_base.specs.declared.row.Row.{Row}
use Rattle.scr_plan.specs.Plan.{Plan, IsPlan, frame_count, row_of_packet}
use Rattle.scr_plan.specs.Kept.{first_carried}
use Rattle.scr_wire.specs.Lane.{frame, rows_carried}
use Rattle.scr_wire.specs.Spelling.{IsRow, HasSpelling}
use Rattle.scr_stream.specs.Frames.{StreamFrame, frame_of, carried_row, first_of, row_in, last_number}
use Rattle.scr_stream.specs.Tests.{rows_due, same_row, clash, differs}
use Rattle.scr_stream.specs.Reading.{Follows}
use Rattle.scr_stream.proofs.Ranges.{any-none}
use Rattle.scr_stream.proofs.RowsOfFrames.{row_in-more, last_number-more, carried-before, carried-behind}

-- frame n, as it stands in the stream
abbrev pub written : Plan → (n : ℕ) → StreamFrame
written plan n = frame_of (frame plan n)

slice_get-drop : (k i : ℕ) (rows : List Row) → slice_get (drop k rows) i ≡ slice_get rows (k + i)
slice_get-drop zero i rows = let at : 0 + i ≡ i = omega arith in ap (slice_get rows) (sym at)
slice_get-drop (suc k) i [] = refl
slice_get-drop (suc k) i (row ∷ rows) =
    let at : suc k + i ≡ suc (k + i) = omega arith in
    slice_get-drop k i rows ∙ ap (slice_get (row ∷ rows)) (sym at)

slice_get-take : (n i : ℕ) (rows : List Row) → i < n → slice_get (take n rows) i ≡ slice_get rows i
slice_get-take zero i rows below = absurd (omega arith)
slice_get-take (suc n) i [] below = refl
slice_get-take (suc n) zero (row ∷ rows) below = refl
slice_get-take (suc n) (suc i) (row ∷ rows) below = slice_get-take n i rows (omega arith)

-- how many rows it has
pub rows-due : (plan : Plan) (n : ℕ) → n ≤ frame_count plan → length (rows_carried plan n) ≡ rows_due plan.history n
rows-due plan n within =
    let taken = length-take-le n plan.rows within in
    let kept = length-drop (first_carried plan.history n - 1) (take n plan.rows) in
    omega arith

-- the rows that it carries
pub written-carries : (plan : Plan) (n p : ℕ) → n ≤ frame_count plan → first_carried plan.history n ≤ p → p ≤ n → carried_row (written plan n) p ≡ row_of_packet plan p
unfolding carried_row
written-carries plan n p within from to =
    let first : ℕ = first_carried plan.history n in
    let due = rows-due plan n within in
    let count : ℕ = length (rows_carried plan n) in
    let test : leb (p + length (rows_carried plan n)) n ≡ false = grind (arith, nat_tests, due) in
    let place : p + length (rows_carried plan n) - (n + 1) ≡ p - first = omega (arith, due) in
    let there : (first - 1) + (p - first) ≡ p - 1 = omega arith in
    ap (λ (b : Bool). cond b None (slice_get (rows_carried plan n) (p + length (rows_carried plan n) - (n + 1)))) test
    ∙ ap (slice_get (rows_carried plan n)) place
    ∙ slice_get-drop (first - 1) (p - first) (take n plan.rows)
    ∙ ap (slice_get (take n plan.rows)) there
    ∙ slice_get-take n (p - 1) plan.rows (omega arith)

-- a row is that of packet p, where there is one
abbrev pub Agrees : Plan → (p : ℕ) → Option Row → Type 0
Agrees plan p row = (row ≡ None) ⊎ (row ≡ row_of_packet plan p)

pub written-agrees : (plan : Plan) (n p : ℕ) → n ≤ frame_count plan → Agrees plan p (carried_row (written plan n) p)
written-agrees plan n p within =
    let due = rows-due plan n within in
    elim (cases_lt p (first_carried plan.history n)) [
      | inl before ↦ inl (carried-before (written plan n) p (omega (arith, due)))
      | inr from ↦ elim (cases_lt n p) [
        | inl behind ↦ inl (carried-behind (written plan n) p behind)
        | inr to ↦ inr (written-carries plan n p within from to)
      ]
    ]

pub Agrees-first : (plan : Plan) (p : ℕ) (one other : Option Row) → Agrees plan p one → Agrees plan p other → Agrees plan p (first_of one other)
Agrees-first plan p None other first second = second
Agrees-first plan p (Some row) other first second = first

same_row-same : (row : Row) → same_row row row ≡ true
unfolding same_row
same_row-same row = grind (arith, nat_tests)

both-some : (a b : Row) (o : Option Row) → (Some a ≡ None) ⊎ (Some a ≡ o) → (Some b ≡ None) ⊎ (Some b ≡ o) → b ≡ a
both-some a b o (inl none) second = absurd cc
both-some a b o (inr first) (inl none) = absurd cc
both-some a b o (inr first) (inr second) = let same : Some b ≡ Some a = second ∙ sym first in cc

-- two rows of the same packet don't clash
no-clash : (plan : Plan) (p : ℕ) (one other : Option Row) → Agrees plan p one → Agrees plan p other → clash one other ≡ false
no-clash plan p None other first second = refl
no-clash plan p (Some a) None first second = refl
no-clash plan p (Some a) (Some b) first second =
    let same : b ≡ a = both-some a b (row_of_packet plan p) first second in
    ap (λ (x : Row). not (same_row a x)) same ∙ ap not (same_row-same a)

-- some frames with numbers below n have only rows of the plan
pub record Earlier (plan : Plan) (n : ℕ) (frames : List StreamFrame) : Type 0 where
  pub below : last_number frames < n
  pub agree : (p : ℕ) → Agrees plan p (row_in frames p)

pub Earlier-none : (plan : Plan) (n : ℕ) → 1 ≤ n → Earlier plan n []
unfolding row_in last_number
Earlier-none plan n from = record { below = omega arith; agree = λ p. inl refl }

pub Earlier-past : (plan : Plan) (n : ℕ) (frames : List StreamFrame) → Earlier plan n frames → Earlier plan (n + 1) frames
Earlier-past plan n frames earlier = let below = earlier.below in record { below = omega arith; agree = earlier.agree }

pub Earlier-more : (plan : Plan) (n : ℕ) (frames : List StreamFrame) → n ≤ frame_count plan → Earlier plan n frames
    → Earlier plan (n + 1) (frames ++ written plan n ∷ [])
Earlier-more plan n frames within earlier =
    let last = last_number-more frames (written plan n) earlier.below in
    record {
      below = omega (arith, last);
      agree = λ p. subst (Agrees plan p) (sym (row_in-more frames (written plan n) p))
          (Agrees-first plan p (row_in frames p) (carried_row (written plan n) p) (earlier.agree p) (written-agrees plan n p within));
    }

-- frame n has a spelling
pub written-spelled : (plan : Plan) (n : ℕ) → IsPlan plan → All IsRow plan.rows → 1 ≤ n → n ≤ frame_count plan → HasSpelling (frame plan n)
written-spelled plan n is fits from within =
    let due = rows-due plan n within in
    let few = is.few_rows in
    let short = is.short_history in
    record {
      number = omega arith;
      count = grind (arith, nat_tests, due);
      rows = All-drop IsRow (first_carried plan.history n - 1) (take n plan.rows) (All-take IsRow n plan.rows fits);
    }

-- it may stand behind such frames
pub written-follows : (plan : Plan) (n : ℕ) (frames : List StreamFrame) → IsPlan plan → All IsRow plan.rows → 1 ≤ n → n ≤ frame_count plan
    → Earlier plan n frames → Follows plan.history frames (written plan n)
unfolding differs
written-follows plan n frames is fits from within earlier =
    let few = is.few_rows in
    record {
      has_spelling = written-spelled plan n is fits from within;
      few = omega arith;
      later = earlier.below;
      all_rows = rows-due plan n within;
      agrees = any-none (λ p. clash (row_in frames p) (carried_row (written plan n) p)) 1 n
          (λ p a b. no-clash plan p (row_in frames p) (carried_row (written plan n) p) (earlier.agree p) (written-agrees plan n p within));
    }

-- Plans of the same run have the same outcome: it is made of nothing else.
use Rattle.std.proofs.Common.{◌≡◌, ℕ, ◌-◌, Bool, true, false, cond, ◌&&◌, not, List, map, None, refl, ap, ◌∙◌, filter_map, count_by, ◌==◌}
use Rattle.std.specs.List.{range_with_len, list_any}
use Rattle.std.specs.Option.{option_map}
use Rattle.scr_base.specs.declared.row.Row.{Row}
use Rattle.scr_base.specs.declared.row.Verdict.{Verdict}
use Rattle.scr_plan.specs.declared.given.Given.{Given}
use Rattle.scr_plan.specs.Counts.{delivered_count, kept_count, plan_counts}
use Rattle.scr_plan.specs.Delivered.{core_number, delivers, delivers_to}
use Rattle.scr_plan.specs.Kept.{carries, carries_to, keeps}
use Rattle.scr_plan.specs.Plan.{Plan, frame_count, row_of_packet}
use Rattle.scr_plan.proofs.Packets.{kept-delivered}
use Rattle.scr_replica.specs.OneCore.{entries, given_at, given_with, kept_row, kept_rows, verdicts}
use Rattle.scr_report.specs.Outcome.{report_of}
use Rattle.scr_run.specs.Rules.{Rules}
use Rattle.scr_run.specs.RunReport.{outcome_of}
use Rattle.scr_stream.specs.SameRun.{IsSameRun}

-- what stands where the tests agree, and hold
if-same : {A : Type 0} (other one : Bool) (x y none : A) → other ≡ one → (one ≡ true → x ≡ y) → cond other x none ≡ cond one y none
if-same true true x y none same here = here refl
if-same true false x y none same here = absurd cc
if-same false true x y none same here = absurd cc
if-same false false x y none same here = refl

module _ (plan other : Plan) (same : IsSameRun plan other) where
  -- ---- the rows of kept packets

  kept_row-same : (p : ℕ) → kept_row other p ≡ kept_row plan p
  kept_row-same p = if-same (keeps other p) (keeps plan p) (row_of_packet other p) (row_of_packet plan p) None (same.kept p) (same.rows p)

  kept_rows-same : (p : ℕ) → kept_rows other p ≡ kept_rows plan p
  unfolding kept_rows
  kept_rows-same p = λ i. filter_map (λ n. kept_row-same n i) (range_with_len 1 p)

  entries-same : (count_after : List Row → ℕ) → entries count_after other ≡ entries count_after plan
  entries-same count_after =
      ap (λ (p : ℕ). count_after (kept_rows other p)) same.count ∙ ap count_after (kept_rows-same (frame_count plan))

  -- ---- the verdicts

  module _ (verdict_after : List Row → Row → Verdict) where
    abbrev given_behind : (n : ℕ) → List Row → Row → Given
    given_behind n kept row = record { number = n; verdict = verdict_after kept row }

    given-same : (n : ℕ) → delivers plan n ≡ true
        → option_map (given_with verdict_after other n) (row_of_packet other n) ≡ option_map (given_with verdict_after plan n) (row_of_packet plan n)
    given-same n delivered =
        (λ i. option_map (given_behind n (kept_rows-same (n - 1) i)) (row_of_packet other n))
        ∙ ap (option_map (given_with verdict_after plan n)) (same.rows n (kept-delivered plan n delivered))

    given_at-same : (n : ℕ) → given_at verdict_after other n ≡ given_at verdict_after plan n
    given_at-same n =
        if-same (delivers other n) (delivers plan n) (option_map (given_with verdict_after other n) (row_of_packet other n))
        (option_map (given_with verdict_after plan n) (row_of_packet plan n)) None (same.delivered n) (given-same n)

    verdicts-same : verdicts verdict_after other ≡ verdicts verdict_after plan
    unfolding verdicts
    verdicts-same = λ i. filter_map (λ n. given_at-same n i) (range_with_len 1 (same.count i))

  -- ---- the counts

  delivered-same : delivered_count other ≡ delivered_count plan
  delivered-same = λ i. count_by (λ n. same.delivered n i) (range_with_len 1 (same.count i))

  kept-same : kept_count other ≡ kept_count plan
  kept-same = λ i. count_by (λ p. same.kept p i) (range_with_len 1 (same.count i))

  delivers_to-same : (core n : ℕ) → delivers_to other core n ≡ delivers_to plan core n
  unfolding delivers_to
  delivers_to-same core n = λ i. same.delivered n i && (core_number (same.cores i) n == core)

  carries_to-same : (core p : ℕ) → carries_to other core p ≡ carries_to plan core p
  unfolding carries_to
  carries_to-same core p =
      λ i. list_any (λ n. delivers_to-same core n i && carries (same.history i) n p) (range_with_len 1 (same.count i))

  counts-same : (core : ℕ) → plan_counts other core ≡ plan_counts plan core
  counts-same core = λ i. record {
    delivered = count_by (λ n. delivers_to-same core n i) (range_with_len 1 (same.count i));
    carried = count_by (λ n. carries_to-same core n i) (range_with_len 1 (same.count i));
    recovered = count_by (λ n. same.kept n i && not (carries_to-same core n i)) (range_with_len 1 (same.count i));
    skipped = count_by (λ n. not (same.kept n i)) (range_with_len 1 (same.count i));
  }

  cores-same : map (plan_counts other) (range_with_len 0 other.cores) ≡ map (plan_counts plan) (range_with_len 0 plan.cores)
  cores-same = λ i. map (λ core. counts-same core i) (range_with_len 0 (same.cores i))

  -- ---- all of it

  pub outcome-same : (rules : Rules) → outcome_of rules other ≡ outcome_of rules plan
  outcome-same rules = λ i. report_of rules.names (verdicts-same rules.verdict_after i) (same.count i) (delivered-same i) (kept-same i) (cores-same i)
      (entries-same rules.count_after i)

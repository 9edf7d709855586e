-- The counts of frames and packets in a report, from those of the cores.
use Rattle.std.proofs.Common.{◌≡◌, ◌+◌, ◌<◌, ◌≤◌, List, length, map, get_or, refl, ap, ◌∙◌, arith}
use Rattle.std.specs.List.{range_with_len}
use Rattle.std.proofs.lemmas.List.FromFn.{length-range_with_len, length-map-range_with_len, get_or-map-range_with_len}
use Rattle.scr_plan.specs.declared.counting.CoreCounts.{CoreCounts}
use Rattle.scr_plan.specs.Counts.{delivered_count, kept_count, plan_counts}
use Rattle.scr_plan.specs.Plan.{Plan, IsPlan, frame_count}
use Rattle.scr_plan.specs.Delivered.{delivers}
use Rattle.scr_plan.proofs.FromOne.{count-not}
use Rattle.scr_plan.proofs.Totals.{skipped-total}

module _ (plan : Plan) (is : IsPlan plan) where
  -- at most as many frames are delivered as there are
  pub few-delivered : delivered_count plan ≤ 1000000
  few-delivered = omega (arith, count-not (λ n. delivers plan n) (range_with_len 1 (frame_count plan)), length-range_with_len 1 (frame_count plan), is.few_rows)

  module _ (cores : List CoreCounts) (are : cores ≡ map (plan_counts plan) (range_with_len 0 plan.cores)) where
    -- there is a core
    pub some-core : 0 < length cores
    some-core = omega (arith, ap length are, length-map-range_with_len (plan_counts plan) 0 plan.cores, is.a_core)

    -- what it didn't skip is kept
    pub first-core : (none : CoreCounts) → (get_or cores 0 none).skipped + kept_count plan ≡ frame_count plan
    first-core none =
        let first : get_or cores 0 none ≡ plan_counts plan 0 =
        ap (λ (cs : List CoreCounts). get_or cs 0 none) are ∙ get_or-map-range_with_len (plan_counts plan) 0 plan.cores 0 0 none is.a_core refl in
        ap (λ (counts : CoreCounts). counts.skipped + kept_count plan) first
        ∙ skipped-total plan 0

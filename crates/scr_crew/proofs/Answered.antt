-- The answers of the cores, taken one after the other.
use Rattle.std.proofs.Common.{◌≡◌, ℕ, ◌+◌, ◌≤◌, List, [], ◌∷◌, ◌++◌, length, map, Ok, Result, refl, sym, ap, ◌∙◌, subst, arith}
use Rattle.std.specs.List.{range_with_len}
use Rattle.std.proofs.lemmas.List.{length-append}
use Rattle.std.proofs.lemmas.List.FromFn.{map-range_with_len_more}
use Rattle.scr_base.specs.declared.row.Row.{Row}
use Rattle.scr_plan.specs.declared.counting.CoreCounts.{CoreCounts}
use Rattle.scr_plan.specs.Plan.{Plan}
use Rattle.scr_plan.specs.Counts.{plan_counts}
use Rattle.scr_replica.specs.OneCore.{entries}
use Rattle.scr_replica.specs.Stops.{Stop}
use Rattle.scr_crew.specs.Cores.{OfCores}
use Rattle.scr_crew.specs.Answers.{IsAnswer}
use Rattle.scr_crew.specs.declared.core_out.CoreTotals.{CoreTotals}
use Rattle.scr_crew.proofs.Coming.{Coming, all_coming, first_comes, others_come}

-- these are the counts of the first cores and the entries of the last of them, and the answers of the others are still to come
pub record Answered {P Settings State : Type 0} (count_after : List Row → ℕ) (plan : Plan) (cores : List CoreCounts) (flows : ℕ) (rest : List (Result (CoreTotals P Settings State) Stop)) : Type 0 where
  pub so_far : cores ≡ map (plan_counts plan) (range_with_len 0 (length cores))
  pub last : 1 ≤ length cores → flows ≡ entries count_after plan
  pub coming : Coming (IsAnswer count_after plan) (length cores) plan.cores rest

module _ {P Settings State : Type 0} (count_after : List Row → ℕ) (plan : Plan) where
  pub none_answered : (answers : List (Result (CoreTotals P Settings State) Stop)) → OfCores (IsAnswer count_after plan) plan.cores answers
      → Answered count_after plan [] 0 answers
  none_answered answers of = record {
    so_far = refl;
    last = λ some. absurd (omega arith);
    coming = all_coming (IsAnswer count_after plan) plan.cores answers of;
  }

  pub one_answered : (cores : List CoreCounts) (flows : ℕ) (totals : CoreTotals P Settings State) (rest : List (Result (CoreTotals P Settings State) Stop))
      → Answered count_after plan cores flows (Ok totals ∷ rest) → Answered count_after plan (cores ++ totals.counts ∷ []) totals.flows rest
  one_answered cores flows totals rest is =
      let n : ℕ = length cores in
      let longer : length (cores ++ totals.counts ∷ []) ≡ n + 1 = omega (arith, length-append cores (totals.counts ∷ [])) in
      let its : IsAnswer count_after plan n (Ok totals) = first_comes (IsAnswer count_after plan) n plan.cores (Ok totals) rest is.coming in
      record {
        so_far = ap (λ (xs : List CoreCounts). xs ++ totals.counts ∷ []) is.so_far
            ∙ ap (λ (it : CoreCounts). map (plan_counts plan) (range_with_len 0 n) ++ it ∷ []) its.its_counts
            ∙ sym (map-range_with_len_more (plan_counts plan) 0 n n (omega arith))
            ∙ ap (λ (k : ℕ). map (plan_counts plan) (range_with_len 0 k)) (sym longer);
        last = λ some. its.its_flows;
        coming = subst (λ (k : ℕ). Coming (IsAnswer count_after plan) k plan.cores rest) (sym longer)
            (others_come (IsAnswer count_after plan) n plan.cores (Ok totals) rest is.coming);
      }

  pub all_answered : (cores : List CoreCounts) (flows : ℕ) (rest : List (Result (CoreTotals P Settings State) Stop)) → Answered count_after plan cores flows rest
      → 1 ≤ plan.cores → length rest ≡ 0
      → (cores ≡ map (plan_counts plan) (range_with_len 0 plan.cores)) × (flows ≡ entries count_after plan)
  all_answered cores flows rest is some none =
      let all = is.coming.all in
      let long : length cores ≡ plan.cores = omega (arith, none) in (
        is.so_far ∙ ap (λ (k : ℕ). map (plan_counts plan) (range_with_len 0 k)) long,
        is.last (omega arith),
      )

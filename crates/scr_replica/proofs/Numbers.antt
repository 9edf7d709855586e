-- The numbers of the verdicts are those of the delivered frames.
use Rattle.std.proofs.Common.{◌≡◌, ℕ, zero, suc, ◌+◌, ◌-◌, ◌≤◌, Bool, true, false, cond, List, ◌∷◌, map, Option, Some, None, get_or, refl, ap, arith, filter_map, filter}
use Rattle.std.specs.List.{range_with_len, cons_option}
use Rattle.std.specs.Option.{option_map}
use Rattle.std.proofs.lemmas.Option.{slice_get-get_or}
use Rattle.scr_base.specs.declared.row.Row.{Row}
use Rattle.scr_base.specs.declared.row.Verdict.{Verdict}
use Rattle.scr_plan.specs.declared.given.Given.{Given}
use Rattle.scr_plan.specs.Plan.{Plan, frame_count, row_of_packet}
use Rattle.scr_plan.specs.Delivered.{delivers}
use Rattle.scr_replica.specs.OneCore.{given_with, given_at, verdicts}

module _ (verdict_after : List Row → Row → Verdict) (plan : Plan) where
  -- a verdict of frame n, or none
  number_of : (n : ℕ) (row : Row) (goes : Bool) (o : Option Row) (given : List Given) (rest : List ℕ) → o ≡ Some row
      → map (λ (it : Given). it.number) given ≡ rest
      → map (λ (it : Given). it.number) (cons_option (cond goes (option_map (given_with verdict_after plan n) o) None) given)
      ≡ cond goes (n ∷ rest) rest
  number_of n row true (Some other) given rest is same = ap (λ (ns : List ℕ). n ∷ ns) same
  number_of n row true None given rest is same = absurd cc
  number_of n row false o given rest is same = same

  numbers_from : (n k : ℕ) → 1 ≤ n → n + k ≤ frame_count plan + 1
      → map (λ (it : Given). it.number) (filter_map (given_at verdict_after plan) (range_with_len n k)) ≡ filter (delivers plan) (range_with_len n k)
  numbers_from n zero from to = refl
  numbers_from n (suc k) from to =
      let d : Row = record { w0 = 0; w1 = 0; w2 = 0; w3 = 0; w4 = 0; w5 = 0; w6 = 0 } in
      number_of n (get_or plan.rows (n - 1) d) (delivers plan n) (row_of_packet plan n) (filter_map (given_at verdict_after plan) (range_with_len (n + 1) k))
      (filter (delivers plan) (range_with_len (n + 1) k)) (slice_get-get_or plan.rows (n - 1) d (omega arith))
      (numbers_from (n + 1) k (omega arith) (omega arith))

  pub verdict-numbers : map (λ (it : Given). it.number) (verdicts verdict_after plan) ≡ filter (delivers plan) (range_with_len 1 (frame_count plan))
  unfolding verdicts
  verdict-numbers = numbers_from 1 (frame_count plan) (omega arith) (omega arith)

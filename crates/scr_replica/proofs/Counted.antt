-- How many verdicts there are, and that each has a name.
use Rattle.std.proofs.Common.{◌≡◌, ℕ, zero, suc, ◌+◌, ◌-◌, ◌<◌, ◌≤◌, Bool, true, false, List, [], ◌∷◌, All, length, Option, Some, None, IfSome, refl, sym, ap, ◌∙◌, arith, filter_map, count_by, if◌then◌else◌}
use Rattle.std.specs.List.{range_with_len, slice_get, cons_option}
use Rattle.std.specs.Option.{option_map}
use Rattle.std.proofs.lemmas.List.{length-append}
use Rattle.std.proofs.lemmas.List.Elements.{filter_map-append, All-nil, All-cons}
use Rattle.scr_base.specs.declared.row.Row.{Row}
use Rattle.scr_base.specs.declared.row.Verdict.{Verdict}
use Rattle.scr_plan.specs.declared.given.Given.{Given}
use Rattle.scr_plan.specs.Delivered.{delivers}
use Rattle.scr_plan.specs.Kept.{keeps}
use Rattle.scr_plan.specs.Counts.{delivered_count, kept_count}
use Rattle.scr_plan.specs.Link.{empty_link}
use Rattle.scr_plan.specs.Plan.{Plan, frame_count}
use Rattle.scr_plan.proofs.FromOne.{range-suc, count-suc}
use Rattle.scr_plan.proofs.EmptyLink.{delivered-all, kept-all}
use Rattle.scr_replica.specs.OneCore.{given_with, given_at, verdicts}

-- a test that all numbers from 1 to m pass counts m
count-all : (test : ℕ → Bool) (m : ℕ) → ((n : ℕ) → 1 ≤ n → n ≤ m → test n ≡ true) → count_by test (range_with_len 1 m) ≡ m
count-all test zero all = refl
count-all test (suc m) all =
    let before = count-all test m (λ n from to. all n from (omega arith)) in
    rw (count-suc test m, all (suc m) (omega arith) (omega arith)) (omega (arith, before))

-- where the link does nothing, all are delivered, and all packets are kept
pub delivered_count-all : (plan : Plan) → plan.link ≡ empty_link → delivered_count plan ≡ frame_count plan
delivered_count-all plan none = count-all (λ n. delivers plan n) (frame_count plan) (λ n from to. delivered-all plan none n from to)

pub kept_count-all : (plan : Plan) → plan.link ≡ empty_link → kept_count plan ≡ frame_count plan
kept_count-all plan none = count-all (λ p. keeps plan p) (frame_count plan) (λ p from to. kept-all plan none p from to)

-- there is a row at each number
row-there : (rows : List Row) (n : ℕ) → n < length rows → (row : Row) × (slice_get rows n ≡ Some row)
row-there [] n below = absurd (omega arith)
row-there (row ∷ rows) zero below = (row, refl)
row-there (row ∷ rows) (suc n) below = row-there rows n (omega arith)

module _ (verdict_after : List Row → Row → Verdict) (plan : Plan) where
  -- one verdict at a delivered frame, else none
  length-at : (n : ℕ) → 1 ≤ n → n ≤ frame_count plan → length (filter_map (given_at verdict_after plan) (n ∷ [])) ≡ (if delivers plan n then 1 else 0)
  length-at n from to = at (delivers plan n) refl (row-there plan.rows (n - 1) (omega arith))
    where
      at : (sent : Bool) → delivers plan n ≡ sent → (row : Row) × (slice_get plan.rows (n - 1) ≡ Some row)
          → length (filter_map (given_at verdict_after plan) (n ∷ [])) ≡ (if delivers plan n then 1 else 0)
      at true is (row, there) = rw (is, there) refl
      at false is (row, there) = rw is refl

  length-up_to : (m : ℕ) → m ≤ frame_count plan
      → length (filter_map (given_at verdict_after plan) (range_with_len 1 m)) ≡ count_by (λ n. delivers plan n) (range_with_len 1 m)
  length-up_to zero within = refl
  length-up_to (suc m) within =
      let f = given_at verdict_after plan in
      let e : 1 + m ≡ suc m = omega arith in
      ap (λ (ns : List ℕ). length (filter_map f ns)) (range-suc 1 m)
      ∙ ap length (filter_map-append f (range_with_len 1 m) ((1 + m) ∷ []))
      ∙ length-append (filter_map f (range_with_len 1 m)) (filter_map f ((1 + m) ∷ []))
      ∙ ap (λ (k : ℕ). k + length (filter_map f ((1 + m) ∷ []))) (length-up_to m (omega arith))
      ∙ ap (λ (n : ℕ). count_by (λ n. delivers plan n) (range_with_len 1 m) + length (filter_map f (n ∷ []))) e
      ∙ ap (λ (k : ℕ). count_by (λ n. delivers plan n) (range_with_len 1 m) + k) (length-at (suc m) (omega arith) within)
      ∙ sym (count-suc (λ n. delivers plan n) m)

  -- as many verdicts as delivered frames
  pub length-verdicts-delivered : length (verdicts verdict_after plan) ≡ delivered_count plan
  unfolding verdicts
  length-verdicts-delivered = length-up_to (frame_count plan) (omega arith)

  -- where each verdict has a name, all that are given have one
  pub verdicts-named : (names : ℕ) → ((rows : List Row) (row : Row) → (verdict_after rows row).0 < names)
      → All (λ given. given.verdict.0 < names) (verdicts verdict_after plan)
  unfolding verdicts
  verdicts-named names named = all (range_with_len 1 (frame_count plan))
    where
      at : (n : ℕ) → IfSome (given_at verdict_after plan n) (λ given. given.verdict.0 < names)
      at n = chosen (delivers plan n) (slice_get plan.rows (n - 1))
        where
          chosen : (sent : Bool) (row : Option Row) → IfSome (if sent then option_map (given_with verdict_after plan n) row else None) (λ given. given.verdict.0 < names)
          chosen true (Some row) = named _ row
          chosen true None = tt
          chosen false row = tt

      put : (given : Option Given) (others : List Given) → IfSome given (λ given. given.verdict.0 < names)
          → All (λ given. given.verdict.0 < names) others → All (λ given. given.verdict.0 < names) (cons_option given others)
      put None others one rest = rest
      put (Some given) others one rest = All-cons (λ (given : Given). given.verdict.0 < names) given others one rest

      all : (ns : List ℕ) → All (λ given. given.verdict.0 < names) (filter_map (given_at verdict_after plan) ns)
      all [] = All-nil (λ (given : Given). given.verdict.0 < names)
      all (n ∷ ns) = put (given_at verdict_after plan n) (filter_map (given_at verdict_after plan) ns) (at n) (all ns)

-- A core asks each other core once, and a packet that all have lost isn't kept.
use Rattle.std.proofs.Common.{◌≡◌, ℕ, ◌+◌, ◌-◌, ◌*◌, ◌/◌, ◌%◌, ◌<◌, ◌≤◌, None, inl, inr, arith, sym, ap, ◌∙◌}
use Rattle.std.proofs.lemmas.Bool.{cases_lt}
use Rattle.std.proofs.lemmas.Nat.{div-add-mod', mod-mul-add}
use Rattle.scr_plan.specs.Plan.{Plan, IsPlan, frame_count}
use Rattle.scr_plan.specs.FinalEntry.{final_entry}
use Rattle.scr_replica.specs.OneCore.{kept_row}
use Rattle.scr_replica.specs.Replicas.{asked}
use Rattle.scr_replica.proofs.Packets.{unknown-unkept}

-- each core is asked at some place
asked-place : (plan : Plan) (p core : ℕ) → 1 ≤ p → core < plan.cores → (i : ℕ) × (i < plan.cores) × (asked plan p i ≡ core)
asked-place plan p core from below =
    let k : ℕ = plan.cores in
    let q : ℕ = p - 1 in
    let r : ℕ = q % k in
    let a : ℕ = q / k in
    let whole : a * k + r ≡ q = div-add-mod' q k in
    let small : r < k = omega arith in
    elim (cases_lt core r) as (λ _. (i : ℕ) × (i < plan.cores) × (asked plan p i ≡ core)) [
      | inl less ↦ (
          let i : ℕ = core + k - r in
          let next : (a + 1) * k ≡ a * k + k = grind arith in
          let sum : p + i - 1 ≡ (a + 1) * k + core = omega arith in
          (i, omega arith, ap (λ (n : ℕ). n % k) sum ∙ mod-mul-add (a + 1) k core below))
      | inr more ↦ (
          let i : ℕ = core - r in
          let sum : p + i - 1 ≡ a * k + core = omega arith in
          (i, omega arith, ap (λ (n : ℕ). n % k) sum ∙ mod-mul-add a k core below))
    ]

-- a packet that all have lost isn't kept
pub all-lost : (plan : Plan) (p : ℕ) → IsPlan plan → 1 ≤ p → p ≤ frame_count plan
    → ((i : ℕ) → i < plan.cores → final_entry plan (asked plan p i) p ≡ None) → None ≡ kept_row plan p
all-lost plan p is_plan from to lost =
    sym (unknown-unkept plan p from to is_plan
    (λ core below.
    let place = asked-place plan p core from below in
    ap (λ (c : ℕ). final_entry plan c p) (sym place.2) ∙ lost place.0 place.1))

-- What the steps of a lane's order hold.
use Rattle.std.proofs.Common.{◌≡◌, ℕ, ◌-◌, ◌≤◌, Bool, true, false, cond, ◌&&◌, List, [], ◌∷◌, inl, inr, arith, refl, subst, eqb, leb}
use Rattle.std.specs.List.{flat_map, range_with_len}
use Rattle.std.proofs.lemmas.Bool.{cases_lt}
use Rattle.std.proofs.lemmas.Bool.Decides.{nat_tests}
use Rattle.scr_plan.specs.Link.{loses, repeats}
use Rattle.scr_plan.specs.Plan.{Plan, frame_count}
use Rattle.scr_plan.specs.Order.{Item, Beacon, Frame, sends, core_number, comes_at, frame_at, frames_at, has_beacon, beacon_at, items_at, items_to}
use Rattle.scr_plan.proofs.Each.{Each, first, Each-append, Each-front, Each-back, Each-lists, Each-list}

-- frame n is sent to this core, and comes at this step
pub record Comes (plan : Plan) (core step n : ℕ) : Type 0 where
  pub sent : sends plan n ≡ true
  pub its_core : core_number plan.cores n ≡ core
  pub then : comes_at plan n ≡ step

pub sends-within : (plan : Plan) (n : ℕ) → sends plan n ≡ true → (1 ≤ n) × (n ≤ frame_count plan) × (loses plan.link n ≡ false)
unfolding sends
sends-within plan n e = (grind (arith, nat_tests), grind (arith, nat_tests), grind (arith, nat_tests))

pub sends-free : (plan : Plan) (n : ℕ) → 1 ≤ n → n ≤ frame_count plan → loses plan.link n ≡ false → sends plan n ≡ true
unfolding sends
sends-free plan n from to free = grind (arith, nat_tests)

module _ (test : Item → Bool) where
  one_or_two : (b r : Bool) (n : ℕ) → (b ≡ true → test (Frame n) ≡ true)
      → Each test (cond b (cond r (Frame n ∷ Frame n ∷ []) (Frame n ∷ [])) [])
  one_or_two true true n is = let e = is refl in rw e refl
  one_or_two true false n is = let e = is refl in rw e refl
  one_or_two false r n is = refl

  of_one_or_two : (b r : Bool) (n : ℕ) → b ≡ true → Each test (cond b (cond r (Frame n ∷ Frame n ∷ []) (Frame n ∷ [])) [])
      → test (Frame n) ≡ true
  of_one_or_two true true n e all = first (test (Frame n)) (test (Frame n) && true) all
  of_one_or_two true false n e all = first (test (Frame n)) true all
  of_one_or_two false r n e all = absurd cc

  module _ (plan : Plan) (core : ℕ) where
    Comes-from : (step n : ℕ) → (sends plan n && (eqb (core_number plan.cores n) core && eqb (comes_at plan n) step)) ≡ true → Comes plan core step n
    Comes-from step n e = record { sent = grind (arith, nat_tests); its_core = grind (arith, nat_tests); then = grind (arith, nat_tests) }

    comes-test : (step n : ℕ) → Comes plan core step n → (sends plan n && (eqb (core_number plan.cores n) core && eqb (comes_at plan n) step)) ≡ true
    comes-test step n is = let a = is.sent in let b = is.its_core in let d = is.then in grind (arith, nat_tests)

    pub Each-frame_at : (step n : ℕ) → (Comes plan core step n → test (Frame n) ≡ true) → Each test (frame_at plan core step n)
    unfolding frame_at
    Each-frame_at step n is = one_or_two _ (repeats plan.link n) n (λ e. is (Comes-from step n e))

    pub of_frame_at : (step n : ℕ) → Comes plan core step n → Each test (frame_at plan core step n) → test (Frame n) ≡ true
    unfolding frame_at
    of_frame_at step n comes all = of_one_or_two _ (repeats plan.link n) n (comes-test step n comes) all

    Each-frames_at : (step : ℕ) → ((n : ℕ) → Comes plan core step n → test (Frame n) ≡ true) → Each test (frames_at plan core step)
    unfolding frames_at
    Each-frames_at step is =
        Each-append test (frame_at plan core step step) (flat_map (frame_at plan core step) (range_with_len 1 (step - 1)))
        (Each-frame_at step step (is step))
        (Each-lists test (frame_at plan core step) (step - 1) (λ n from to. Each-frame_at step n (is n)))

    of_frames_at : (step n : ℕ) → Comes plan core step n → Each test (frames_at plan core step) → test (Frame n) ≡ true
    unfolding frames_at
    of_frames_at step n comes all =
        let own : List Item = frame_at plan core step step in
        let others : List Item = flat_map (frame_at plan core step) (range_with_len 1 (step - 1)) in
        let at = comes.then in
        let from = (sends-within plan n comes.sent).0 in
        elim (cases_lt n step) as (λ _. test (Frame n) ≡ true) [
          | inl early ↦ of_frame_at step n comes
              (Each-list test (frame_at plan core step) (step - 1) n from (omega arith) (Each-back test own others all))
          | inr late ↦ (
              let same : step ≡ n = omega arith in
              of_frame_at step n comes
              (subst (λ (k : ℕ). Each test (frame_at plan core step k)) same (Each-front test own others all)))
        ]

    pub Each-items_to : (m : ℕ) → ((step : ℕ) → 1 ≤ step → step ≤ m → Each test (beacon_at plan step))
        → ((step n : ℕ) → step ≤ m → Comes plan core step n → test (Frame n) ≡ true) → Each test (items_to plan core m)
    unfolding items_to
    Each-items_to m beacons frames =
        Each-lists test (items_at plan core) m
        (λ step from to. Each-append test (beacon_at plan step) (frames_at plan core step) (beacons step from to)
        (Each-frames_at step (λ n comes. frames step n to comes)))

    pub of_items_to-beacon : (m step : ℕ) → 1 ≤ step → step ≤ m → Each test (items_to plan core m) → Each test (beacon_at plan step)
    unfolding items_to
    of_items_to-beacon m step from to all =
        Each-front test (beacon_at plan step) (frames_at plan core step) (Each-list test (items_at plan core) m step from to all)

    pub of_items_to-frame : (m step n : ℕ) → step ≤ m → Comes plan core step n → Each test (items_to plan core m) → test (Frame n) ≡ true
    unfolding items_to
    of_items_to-frame m step n to comes all =
        let at = comes.then in
        let from = (sends-within plan n comes.sent).0 in
        of_frames_at step n comes
        (Each-back test (beacon_at plan step) (frames_at plan core step) (Each-list test (items_at plan core) m step (omega arith) to all))

    pub Each-beacon_at : (step : ℕ) → (has_beacon step ≡ true → step ≤ frame_count plan → test (Beacon (step - 1)) ≡ true)
        → Each test (beacon_at plan step)
    unfolding beacon_at
    Each-beacon_at step is = by (has_beacon step && leb step (frame_count plan)) (λ e. is (grind (arith, nat_tests)) (grind (arith, nat_tests)))
      where
        by : (b : Bool) → (b ≡ true → test (Beacon (step - 1)) ≡ true) → Each test (cond b (Beacon (step - 1) ∷ []) [])
        by true holds = let e = holds refl in rw e refl
        by false holds = refl

    pub of_beacon_at : (step : ℕ) → has_beacon step ≡ true → step ≤ frame_count plan → Each test (beacon_at plan step) → test (Beacon (step - 1)) ≡ true
    unfolding beacon_at
    of_beacon_at step has within all = by (has_beacon step && leb step (frame_count plan)) (grind (arith, nat_tests)) all
      where
        by : (b : Bool) → b ≡ true → Each test (cond b (Beacon (step - 1) ∷ []) []) → test (Beacon (step - 1)) ≡ true
        by true e holds = first (test (Beacon (step - 1))) true holds
        by false e holds = absurd cc

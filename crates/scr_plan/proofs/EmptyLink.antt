-- A link on which each frame arrives once, in its turn: every frame is delivered, and a lane goes number by number.
use Rattle.std.proofs.Common.{◌≡◌, ◌≢◌, ℕ, zero, suc, ◌+◌, ◌-◌, ◌<◌, ◌≤◌, Bool, true, false, cond, ◌&&◌, List, [], ◌∷◌, ◌++◌, refl, sym, ap, ◌∙◌, arith, eqb, leb}
use Rattle.std.specs.List.{flat_map, range_with_len}
use Rattle.std.proofs.lemmas.Bool.{false_from_ne_true}
use Rattle.std.proofs.lemmas.Bool.Decides.{nat_tests}
use Rattle.std.proofs.lemmas.List.{append-nil}
use Rattle.scr_plan.specs.Drops.{has_number}
use Rattle.scr_plan.specs.Delays.{greatest_delay, delay_of}
use Rattle.scr_plan.specs.Link.{Link, empty_link, loses, repeats, delays_by}
use Rattle.scr_plan.specs.Plan.{Plan, frame_count}
use Rattle.scr_plan.specs.Order.{Item, Beacon, Frame, sends, core_number, comes_at, copies, frame_at, frames_at, has_beacon, beacon_at, items_at, items_to, order, plain_at}
use Rattle.scr_plan.specs.Delivered.{delivers}
use Rattle.scr_plan.specs.Kept.{keeps}
use Rattle.scr_plan.proofs.FromOne.{lists-suc}
use Rattle.scr_plan.proofs.Steps.{sends-within, sends-free}
use Rattle.scr_plan.proofs.OrderGrows.{items_to-suc, items_to-zero}
use Rattle.scr_plan.proofs.Judged.{judged-prompt}
use Rattle.scr_plan.proofs.Packets.{kept-delivered}

empty-loses : (n : ℕ) → loses empty_link n ≡ false
unfolding loses has_number
empty-loses n = refl

empty-delays : (n : ℕ) → delays_by empty_link n ≡ 0
unfolding delay_of
empty-delays n = refl

empty-repeats : (n : ℕ) → repeats empty_link n ≡ false
unfolding has_number
empty-repeats n = refl

module _ (plan : Plan) (empty : plan.link ≡ empty_link) where
  pub delivered-all : (n : ℕ) → 1 ≤ n → n ≤ frame_count plan → delivers plan n ≡ true
  delivered-all n from to =
      let none = empty-delays n in
      judged-prompt plan empty_link plan.cores (frame_count plan) n (record { link_is = empty; cores_are = refl; frames_are = refl }) from to
      (empty-loses n) (omega (arith, none)) none

  pub kept-all : (p : ℕ) → 1 ≤ p → p ≤ frame_count plan → keeps plan p ≡ true
  kept-all p from to = kept-delivered plan p (delivered-all p from to)

  in-turn : (n : ℕ) → comes_at plan n ≡ n
  in-turn n = let none = ap (λ (link : Link). delays_by link n) empty ∙ empty-delays n in omega (arith, none)

  module _ (core : ℕ) where
    -- no frame comes at another's step
    nothing-at : (step n : ℕ) → n ≢ step → frame_at plan core step n ≡ []
    unfolding frame_at
    nothing-at step n other =
        let turn = in-turn n in
        let test : (sends plan n && (eqb (core_number plan.cores n) core && eqb (comes_at plan n) step)) ≡ false = grind (arith, nat_tests) in
        ap (λ (b : Bool). cond b (copies plan n) []) test

    no-lists : (f : ℕ → List Item) (m : ℕ) → ((n : ℕ) → n ≤ m → f n ≡ []) → flat_map f (range_with_len 1 m) ≡ []
    no-lists f zero none = refl
    no-lists f (suc m) none =
        lists-suc f m ∙ ap (λ (xs : List Item). xs ++ f (suc m)) (no-lists f m (λ n to. none n (omega arith))) ∙ none (suc m) (omega arith)

    frames-alone : (step : ℕ) → frames_at plan core step ≡ frame_at plan core step step
    unfolding frames_at
    frames-alone step = by step
      where
        by : (step : ℕ) → frame_at plan core step step ++ flat_map (frame_at plan core step) (range_with_len 1 (step - 1)) ≡ frame_at plan core step step
        by zero = append-nil (frame_at plan core zero zero)
        by (suc m) =
            ap (λ (xs : List Item). frame_at plan core (suc m) (suc m) ++ xs)
            (no-lists (frame_at plan core (suc m)) (suc m - 1) (λ n to. nothing-at (suc m) n (λ same. absurd (omega arith))))
            ∙ append-nil (frame_at plan core (suc m) (suc m))

    own-at : (step : ℕ) → 1 ≤ step → step ≤ frame_count plan
        → frame_at plan core step step ≡ cond (eqb (core_number plan.cores step) core) (Frame step ∷ []) []
    unfolding frame_at
    own-at step from to =
        let turn = in-turn step in
        let sent : sends plan step ≡ true =
        sends-free plan step from to (ap (λ (link : Link). loses link step) empty ∙ empty-loses step) in
        let once : copies plan step ≡ Frame step ∷ [] =
        ap (λ (b : Bool). cond b (Frame step ∷ Frame step ∷ []) (Frame step ∷ []))
        (ap (λ (link : Link). repeats link step) empty ∙ empty-repeats step) in
        let test : (sends plan step && (eqb (core_number plan.cores step) core && eqb (comes_at plan step) step)) ≡ eqb (core_number plan.cores step) core =
        grind (arith, nat_tests) in
        ap (λ (b : Bool). cond b (copies plan step) []) test ∙ ap (λ (xs : List Item). cond (eqb (core_number plan.cores step) core) xs []) once

    items-plain : (step : ℕ) → 1 ≤ step → step ≤ frame_count plan → items_at plan core step ≡ plain_at plan core step
    items-plain step from to = ap (λ (xs : List Item). beacon_at plan step ++ xs) (frames-alone step ∙ own-at step from to)

    no-items : (step : ℕ) → frame_count plan < step → items_at plan core step ≡ []
    unfolding beacon_at frame_at
    no-items step above =
        let within = sends-within plan step in
        let unsent : sends plan step ≡ false = false_from_ne_true (sends plan step) (λ yes. let to = (within yes).1 in absurd (omega arith)) in
        let none : (sends plan step && (eqb (core_number plan.cores step) core && eqb (comes_at plan step) step)) ≡ false = grind (arith, nat_tests) in
        let beacon : (has_beacon step && leb step (frame_count plan)) ≡ false = grind (arith, nat_tests) in
        ap (λ (xs : List Item). beacon_at plan step ++ xs) (frames-alone step ∙ ap (λ (b : Bool). cond b (copies plan step) []) none)
        ∙ append-nil (beacon_at plan step)
        ∙ ap (λ (b : Bool). cond b (Beacon (step - 1) ∷ []) []) beacon

    plain-to : (n : ℕ) → n ≤ frame_count plan → items_to plan core n ≡ flat_map (plain_at plan core) (range_with_len 1 n)
    plain-to zero to = items_to-zero plan core
    plain-to (suc n) to =
        items_to-suc plan core n
        ∙ ap (λ (xs : List Item). xs ++ items_at plan core (suc n)) (plain-to n (omega arith))
        ∙ ap (λ (xs : List Item). flat_map (plain_at plan core) (range_with_len 1 n) ++ xs) (items-plain (suc n) (omega arith) to)
        ∙ sym (lists-suc (plain_at plan core) n)

    nothing-behind : (k : ℕ) → items_to plan core (frame_count plan + k) ≡ items_to plan core (frame_count plan)
    nothing-behind zero = let same : frame_count plan + 0 ≡ frame_count plan = omega arith in ap (items_to plan core) same
    nothing-behind (suc k) =
        let next : frame_count plan + suc k ≡ suc (frame_count plan + k) = omega arith in
        ap (items_to plan core) next
        ∙ items_to-suc plan core (frame_count plan + k)
        ∙ ap (λ (xs : List Item). items_to plan core (frame_count plan + k) ++ xs) (no-items (suc (frame_count plan + k)) (omega arith))
        ∙ append-nil (items_to plan core (frame_count plan + k))
        ∙ nothing-behind k

    pub order-plain : order plan core ≡ flat_map (plain_at plan core) (range_with_len 1 (frame_count plan))
    order-plain = nothing-behind greatest_delay ∙ plain-to (frame_count plan) (omega arith)

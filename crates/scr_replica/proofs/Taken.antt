-- Which frames of a lane are taken: just those that are delivered, each once. And what those before a place decide.
use Rattle.std.proofs.Common.{◌≡◌, ℕ, ◌+◌, ◌<◌, ◌≤◌, ◌⊎◌, Bool, true, false, ◌&&◌, not, List, length, get_or, take, inl, inr, refl, sym, ap, ◌∙◌, arith, eqb}
use Rattle.std.specs.List.{list_all, list_any, before_first}
use Rattle.std.proofs.lemmas.Bool.Decides.{nat_tests}
use Rattle.scr_plan.specs.Delays.{greatest_delay}
use Rattle.scr_plan.specs.Plan.{Plan, IsPlan, frame_count}
use Rattle.scr_plan.specs.Order.{Item, sends, comes_at, order}
use Rattle.scr_plan.specs.Order as item
use Rattle.scr_plan.specs.Delivered.{core_number, number_of, is_frame, ahead_of, delivers, delivers_to}
use Rattle.scr_plan.proofs.FrameDelays.{delay_of-near}
use Rattle.scr_plan.proofs.Delivering.{Decides-delivered_to, delivers-sends, delivered_to-own}
use Rattle.scr_plan.proofs.Steps.{sends-within, Each-items_to, Each-beacon_at, of_items_to-frame}
use Rattle.scr_replica.proofs.LaneItems.{each-at, stands-ahead, ahead-is, greatest, under, under-is, all-under, greatest-under, decided_from, has-decided, none-is, none-each}

by_cases : (b : Bool) → (b ≡ true) ⊎ (b ≡ false)
by_cases true = inl refl
by_cases false = inr refl

module _ (plan : Plan) (core : ℕ) where
  -- a frame of the lane is sent, and to this core
  of_core : Item → Bool
  of_core (item.Beacon n) = true
  of_core (item.Frame n) = sends plan n && eqb (core_number plan.cores n) core

  each-of_core : list_all of_core (order plan core) ≡ true
  unfolding of_core
  each-of_core =
      Each-items_to of_core plan core (frame_count plan + greatest_delay)
      (λ step from to. Each-beacon_at of_core plan core step (λ has within. refl))
      (λ step n to comes. let sent = comes.sent in let own = comes.its_core in grind (arith, nat_tests))

  of_core-frame : (n : ℕ) → of_core (item.Frame n) ≡ true → (sends plan n ≡ true) × (core_number plan.cores n ≡ core)
  unfolding of_core
  of_core-frame n e = (grind (arith, nat_tests), grind (arith, nat_tests))

  -- what is ahead of the first copy of a frame of this core
  ahead-in : (n : ℕ) → core_number plan.cores n ≡ core → ahead_of plan n ≡ before_first (is_frame n) (order plan core)
  ahead-in n own = ap (λ (c : ℕ). before_first (is_frame n) (order plan c)) own

  delivered-under : (n : ℕ) → delivers plan n ≡ true → list_all (under n) (ahead_of plan n) ≡ true
  unfolding delivers under
  delivered-under n e = grind arith

  under-delivered : (n : ℕ) → sends plan n ≡ true → list_all (under n) (ahead_of plan n) ≡ true → delivers plan n ≡ true
  unfolding delivers under
  under-delivered n sent all = grind arith

  -- a delivered frame stands in the lane
  stands : (n : ℕ) → IsPlan plan → delivers_to plan core n ≡ true → list_any (is_frame n) (order plan core) ≡ true
  stands n is_plan goes =
      let is = (Decides-delivered_to plan core n).0 goes in
      let sent = delivers-sends plan n is.is.delivered in
      let near = delay_of-near plan.link.delays n is_plan.is_link.delay_list.each in
      elim (by_cases (list_any (is_frame n) (order plan core))) as (λ _. list_any (is_frame n) (order plan core) ≡ true) [
        | inl there ↦ there
        | inr none ↦ (
            let to = is.is.to in
            let fails : not (eqb n n) ≡ true =
            of_items_to-frame (λ it. not (is_frame n it)) plan core (frame_count plan + greatest_delay) (comes_at plan n) n (omega arith)
            (record { sent = sent; its_core = is.its_core; then = refl }) (none-each (is_frame n) (order plan core) none) in
            absurd (grind (arith, nat_tests)))
      ]

  -- all messages together decide each of these
  pub delivered-all : (n : ℕ) → IsPlan plan → delivers_to plan core n ≡ true → n ≤ decided_from plan 0 (order plan core)
  delivered-all n is_plan goes =
      has-decided plan n 0 (order plan core) (stands n is_plan goes) ((Decides-delivered_to plan core n).0 goes).is.delivered

  module _ (m : ℕ) (d : Item) (within : m < length (order plan core)) where
    abbrev before : List Item
    before = take m (order plan core)

    abbrev here : Item
    here = get_or (order plan core) m d

    -- a delivered frame whose number isn't above that of another item stands before that
    pub delivered-before : (n : ℕ) → delivers_to plan core n ≡ true → is_frame n here ≡ false → n ≤ number_of here → n ≤ decided_from plan 0 before
    delivered-before n goes other le =
        let is = (Decides-delivered_to plan core n).0 goes in
        elim (by_cases (list_any (is_frame n) before)) as (λ _. n ≤ decided_from plan 0 before) [
          | inl there ↦ has-decided plan n 0 before there is.is.delivered
          | inr none ↦ (
              let all = ap (list_all (under n)) (sym (ahead-in n is.its_core)) ∙ delivered-under n is.is.delivered in
              let less = under-is n here (stands-ahead (is_frame n) (under n) (order plan core) m d within none other all) in
              absurd (omega arith))
        ]

    module _ (n : ℕ) (at : here ≡ item.Frame n) where
      sent-here : (sends plan n ≡ true) × (core_number plan.cores n ≡ core)
      sent-here = of_core-frame n (ap of_core (sym at) ∙ each-at of_core (order plan core) m d within each-of_core)

      its_own : is_frame n here ≡ true
      its_own = let same : eqb n n ≡ true = grind (arith, nat_tests) in ap (is_frame n) at ∙ same

      -- where no copy of it stands before
      ahead-here : list_any (is_frame n) before ≡ false → ahead_of plan n ≡ before
      ahead-here none = ahead-in n sent-here.1 ∙ ahead-is (is_frame n) (order plan core) m d within none its_own

      -- a frame above all before it is delivered
      pub taken-delivered : greatest plan 0 before < n → delivers_to plan core n ≡ true
      taken-delivered above =
          let all = all-under plan n 0 before above in
          let ahead = ahead-here (none-is n before all) in
          delivered_to-own plan core n (under-delivered n sent-here.0 (ap (list_all (under n)) ahead ∙ all)) sent-here.1

      -- and of one that isn't, which comes too late, or was there before, nothing is left to decide
      pub passed-decided : n ≤ greatest plan 0 before → delivers plan n ≡ true → n ≤ decided_from plan 0 before
      passed-decided below delivered =
          let from = (sends-within plan n sent-here.0).0 in
          elim (by_cases (list_any (is_frame n) before)) as (λ _. n ≤ decided_from plan 0 before) [
            | inl there ↦ has-decided plan n 0 before there delivered
            | inr none ↦ (
                let all = ap (list_all (under n)) (sym (ahead-here none)) ∙ delivered-under n delivered in
                let less = greatest-under plan n 0 before (omega arith) all in
                absurd (omega arith))
          ]

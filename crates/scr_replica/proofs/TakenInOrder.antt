-- The frames that a core takes of its lane are those that are delivered to it, in growing order.
use Rattle.std.proofs.Common.{◌≡◌, ℕ, zero, suc, ◌+◌, ◌<◌, ◌≤◌, Bool, true, false, cond, ◌&&◌, List, [], ◌∷◌, ◌++◌, length, get_or, take, drop, map, max, filter, inl, inr, refl, sym, ap, ◌∙◌, arith, eqb, ltb}
use Rattle.std.specs.List.{range_with_len}
use Rattle.std.proofs.Math.Seq.{drop-cons}
use Rattle.std.proofs.lemmas.Bool.{cases_lt, cases_eq}
use Rattle.std.proofs.lemmas.Bool.Decides.{nat_tests}
use Rattle.std.proofs.lemmas.List.{drop_all, take_all, take_more}
use Rattle.scr_plan.specs.Plan.{Plan, IsPlan, frame_count}
use Rattle.scr_plan.specs.Order.{Item, order}
use Rattle.scr_plan.specs.Order as item
use Rattle.scr_plan.specs.Delivered.{delivers_to, is_frame, number_of}
use Rattle.scr_plan.proofs.Delivering.{Decides-delivered_to}
use Rattle.scr_wire.specs.declared.message.Message.{Message}
use Rattle.scr_wire.specs.declared.message.Message.TheVariants.{End}
use Rattle.scr_wire.specs.Spelling as message
use Rattle.scr_wire.specs.Lane.{message_of, lane_so_far, lane}
use Rattle.scr_replica.specs.Told.{frames_taken}
use Rattle.scr_replica.proofs.LaneItems.{same-number, greatest, decided-few}
use Rattle.scr_replica.proofs.Taken.{delivered-all, delivered-before, taken-delivered}

-- ---- numbers that pass a test

filter-none : (test : ℕ → Bool) (a k : ℕ) → ((n : ℕ) → test n ≡ false) → filter test (range_with_len a k) ≡ []
filter-none test a zero none = refl
filter-none test a (suc k) none = rw (none a) (filter-none test (a + 1) k none)

filter-same : (test other : ℕ → Bool) (a k : ℕ) → ((n : ℕ) → a ≤ n → test n ≡ other n)
    → filter test (range_with_len a k) ≡ filter other (range_with_len a k)
filter-same test other a zero same = refl
filter-same test other a (suc k) same =
    let later = filter-same test other (a + 1) k (λ n above. same n (omega arith)) in
    by (test a) (other a) (same a (omega arith)) later
  where
    by : (b d : Bool) → b ≡ d → filter test (range_with_len (a + 1) k) ≡ filter other (range_with_len (a + 1) k)
        → cond b (a ∷ filter test (range_with_len (a + 1) k)) (filter test (range_with_len (a + 1) k))
        ≡ cond d (a ∷ filter other (range_with_len (a + 1) k)) (filter other (range_with_len (a + 1) k))
    by true true e rest = ap (λ (ns : List ℕ). a ∷ ns) rest
    by true false e rest = absurd cc
    by false true e rest = absurd cc
    by false false e rest = rest

-- the first that passes, and those above it
filter-first : (test above : ℕ → Bool) (first a k : ℕ) → a ≤ first → first < a + k → test first ≡ true
    → ((n : ℕ) → n < first → test n ≡ false) → ((n : ℕ) → n ≤ first → above n ≡ false)
    → ((n : ℕ) → first < n → test n ≡ above n) → filter test (range_with_len a k) ≡ first ∷ filter above (range_with_len a k)
filter-first test above first a zero from to passes below none same = absurd (omega arith)
filter-first test above first a (suc k) from to passes below none same =
    elim (cases_eq a first) as (λ _. filter test (range_with_len a (suc k)) ≡ first ∷ filter above (range_with_len a (suc k))) [
      | inl here ↦ (
          let is : test a ≡ true = ap test here ∙ passes in
          let not_above : above a ≡ false = none a (omega arith) in
          let later = filter-same test above (a + 1) k (λ n after. same n (omega arith)) in
          rw (is, not_above) (ap (λ (n : ℕ). n ∷ filter test (range_with_len (a + 1) k)) here ∙ ap (λ (ns : List ℕ). first ∷ ns) later))
      | inr other ↦ (
          let less : a < first = omega arith in
          let fails : test a ≡ false = below a less in
          let not_above : above a ≡ false = none a (omega arith) in
          rw (fails, not_above) (filter-first test above first (a + 1) k (omega arith) (omega arith) passes below none same))
    ]

-- ---- the greatest number, one item more

greatest-more : (plan : Plan) (from : ℕ) (items : List Item) (it : Item)
    → greatest plan from (items ++ it ∷ []) ≡ max (greatest plan from items) (number_of it)
greatest-more plan from [] it = ap (max from) (same-number plan it)
greatest-more plan from (x ∷ items) it = greatest-more plan (max from (message.number_of (message_of plan x))) items it

module _ (plan : Plan) (core : ℕ) (is_plan : IsPlan plan) where
  abbrev items : List Item
  items = order plan core

  abbrev top : ℕ → ℕ
  top m = greatest plan 0 (take m items)

  -- a delivered frame above all that was taken
  later : (m n : ℕ) → Bool
  later m n = delivers_to plan core n && ltb (top m) n

  later-true : (m n : ℕ) → delivers_to plan core n ≡ true → top m < n → later m n ≡ true
  unfolding later
  later-true m n goes above = grind (arith, nat_tests)

  later-false : (m n : ℕ) → (delivers_to plan core n ≡ true → n ≤ top m) → later m n ≡ false
  unfolding later
  later-false m n within = by (delivers_to plan core n) within
    where
      by : (b : Bool) → (b ≡ true → n ≤ top m) → (b && ltb (top m) n) ≡ false
      by true few = let le = few refl in grind (arith, nat_tests)
      by false few = refl

  later-same : (m k n : ℕ) → (delivers_to plan core n ≡ true → top m < n → top k < n) → (delivers_to plan core n ≡ true → top k < n → top m < n)
      → later m n ≡ later k n
  unfolding later
  later-same m k n there back = by (delivers_to plan core n) there back
    where
      by : (b : Bool) → (b ≡ true → top m < n → top k < n) → (b ≡ true → top k < n → top m < n) → (b && ltb (top m) n) ≡ (b && ltb (top k) n)
      by true to from = let a = to refl in let c = from refl in grind (arith, nat_tests)
      by false to from = refl

  -- what is left of the lane
  abbrev left : ℕ → List Message
  left m = map (message_of plan) (drop m items) ++ End (frame_count plan) ∷ []

  module _ (m : ℕ) (within : m < length items) where
    abbrev here : Item
    here = get_or items m (item.Beacon 0)

    top-next : top (suc m) ≡ max (top m) (number_of here)
    top-next =
        let next : suc m ≡ m + 1 = omega arith in
        ap top next ∙ ap (greatest plan 0) (take_more items m (item.Beacon 0) within) ∙ greatest-more plan 0 (take m items) here

    -- delivered frames up to an item's number aren't above what was taken
    few : (n : ℕ) → delivers_to plan core n ≡ true → is_frame n here ≡ false → n ≤ number_of here → n ≤ top m
    few n goes other le =
        let decided = delivered-before plan core m (item.Beacon 0) within n goes other le in
        let least = decided-few plan 0 0 (take m items) (omega arith) in
        omega arith

    one-more : (it : Item) → here ≡ it → frames_taken (top (suc m)) (left (suc m)) ≡ filter (later (suc m)) (range_with_len 1 (frame_count plan))
        → frames_taken (top m) (message_of plan it ∷ left (suc m)) ≡ filter (later m) (range_with_len 1 (frame_count plan))
    one-more (item.Beacon b) is rest =
        let next : top (suc m) ≡ max (top m) b = top-next ∙ ap (λ (x : Item). max (top m) (number_of x)) is in
        ap (λ (k : ℕ). frames_taken k (left (suc m))) (sym next)
        ∙ rest
        ∙ filter-same (later (suc m)) (later m) 1 (frame_count plan)
        (λ n from.
        later-same (suc m) m n (λ goes above. omega arith)
        (λ goes above.
        elim (cases_lt b n) as (λ _. top (suc m) < n) [
          | inl less ↦ omega arith
          | inr more ↦ (
              let le = few n goes (ap (is_frame n) is) (omega (arith, ap number_of is)) in
              absurd (omega arith))
        ]))
    one-more (item.Frame g) is rest =
        let next : top (suc m) ≡ max (top m) g = top-next ∙ ap (λ (x : Item). max (top m) (number_of x)) is in
        elim (cases_lt (top m) g) as (λ _. frames_taken (top m) (message_of plan (item.Frame g) ∷ left (suc m)) ≡ filter (later m) (range_with_len 1 (frame_count plan))) [
          | inl above ↦ (
              let goes = taken-delivered plan core m (item.Beacon 0) within g is above in
              let delivered = (Decides-delivered_to plan core g).0 goes in
              let from = delivered.is.from in
              let to = delivered.is.to in
              let takes : ltb (top m) g ≡ true = grind (arith, nat_tests) in
              let at : top (suc m) ≡ g = omega arith in
              let first =
              filter-first (later m) (later (suc m)) g 1 (frame_count plan) from (omega arith) (later-true m g goes above)
              (λ n less.
              later-false m n
              (λ its.
              let other : eqb g n ≡ false = grind (arith, nat_tests) in
              few n its (ap (is_frame n) is ∙ other) (omega (arith, ap number_of is))))
              (λ n le. later-false (suc m) n (λ its. omega arith))
              (λ n more. later-same m (suc m) n (λ its over. omega arith) (λ its over. omega arith)) in
              ap (λ (b : Bool). cond b (g ∷ frames_taken g (left (suc m))) (frames_taken (top m) (left (suc m)))) takes
              ∙ ap (λ (k : ℕ). g ∷ frames_taken k (left (suc m))) (sym at)
              ∙ ap (λ (ns : List ℕ). g ∷ ns) rest
              ∙ sym first)
          | inr below ↦ (
              let passes : ltb (top m) g ≡ false = grind (arith, nat_tests) in
              let at : top (suc m) ≡ top m = omega arith in
              ap (λ (b : Bool). cond b (g ∷ frames_taken g (left (suc m))) (frames_taken (top m) (left (suc m)))) passes
              ∙ ap (λ (k : ℕ). frames_taken k (left (suc m))) (sym at)
              ∙ rest
              ∙ filter-same (later (suc m)) (later m) 1 (frame_count plan)
              (λ n from. later-same (suc m) m n (λ its over. omega arith) (λ its over. omega arith)))
        ]

  from-place : (k m : ℕ) → m + k ≡ length items → frames_taken (top m) (left m) ≡ filter (later m) (range_with_len 1 (frame_count plan))
  from-place zero m at =
      let all : take m items ≡ items = take_all m items (omega arith) in
      ap (λ (xs : List Item). frames_taken (top m) (map (message_of plan) xs ++ End (frame_count plan) ∷ [])) (drop_all m items (omega arith))
      ∙ sym
      (filter-none (later m) 1 (frame_count plan)
      (λ n.
      later-false m n
      (λ goes.
      let decided = delivered-all plan core n is_plan goes in
      let least = decided-few plan 0 0 items (omega arith) in
      omega (arith, ap (greatest plan 0) all))))
  from-place (suc k) m at =
      let within : m < length items = omega arith in
      ap (λ (xs : List Item). frames_taken (top m) (map (message_of plan) xs ++ End (frame_count plan) ∷ [])) (drop-cons items m (item.Beacon 0) within)
      ∙ one-more m within (get_or items m (item.Beacon 0)) refl (from-place k (suc m) (omega arith))

  pub frames-taken : frames_taken 0 (lane plan core) ≡ filter (delivers_to plan core) (range_with_len 1 (frame_count plan))
  unfolding lane_so_far later
  frames-taken =
      from-place (length items) 0 (omega arith)
      ∙ filter-same (later 0) (delivers_to plan core) 1 (frame_count plan)
      (λ n from. let above : ltb 0 n ≡ true = grind (arith, nat_tests) in by n (delivers_to plan core n) above)
    where
      by : (n : ℕ) (b : Bool) → ltb 0 n ≡ true → (b && ltb 0 n) ≡ b
      by n true above = above
      by n false above = refl

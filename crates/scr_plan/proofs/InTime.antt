-- A frame is delivered by the order of its core's lane just where it is by numbers.
use Rattle.std.proofs.Common.{◌≡◌, ◌≢◌, ℕ, ◌+◌, ◌-◌, ◌<◌, ◌≤◌, ◌⊎◌, Bool, true, false, cond, ◌&&◌, not, List, [], ◌∷◌, ◌++◌, inl, inr, arith, refl, sym, ap, subst, ◌∙◌, append_assoc, eqb, ltb}
use Rattle.std.specs.List.{list_all, flat_map, range_with_len, before_first}
use Rattle.std.proofs.lemmas.Bool.{cases_lt}
use Rattle.std.proofs.lemmas.Bool.Decides.{nat_tests}
use Rattle.scr_plan.specs.Delays.{greatest_delay}
use Rattle.scr_plan.specs.Link.{loses, repeats}
use Rattle.scr_plan.specs.Plan.{Plan, frame_count}
use Rattle.scr_plan.specs.Order.{Item, Beacon, Frame, sends, core_number, comes_at, copies, frame_at, frames_at, beacon_at, items_to, order}
use Rattle.scr_plan.specs.Delivered.{number_of, is_frame, ahead_of, delivers}
use Rattle.scr_plan.specs.Overtaken.{IsAhead, comes_before}
use Rattle.scr_plan.proofs.Each.{Each, Each-append, Each-front, Each-back, Each-lists, before_first-is}
use Rattle.scr_plan.proofs.OrderGrows.{order-at, frames-at}
use Rattle.scr_plan.proofs.Steps.{Comes, sends-within, sends-free, Each-items_to, of_items_to-beacon, of_items_to-frame, Each-beacon_at, of_beacon_at, Each-frame_at, of_frame_at}

-- a frame that comes at a step stands there
copies-is : (plan : Plan) (n : ℕ) → (more : List Item) × (copies plan n ≡ Frame n ∷ more)
copies-is plan n = by (repeats plan.link n)
  where
    by : (b : Bool) → (more : List Item) × (cond b (Frame n ∷ Frame n ∷ []) (Frame n ∷ []) ≡ Frame n ∷ more)
    by true = (Frame n ∷ [], refl)
    by false = ([], refl)

frame_at-is : (plan : Plan) (core step n : ℕ) → Comes plan core step n → (more : List Item) × (frame_at plan core step n ≡ Frame n ∷ more)
unfolding frame_at
frame_at-is plan core step n comes =
    let a = comes.sent in
    let b = comes.its_core in
    let d = comes.then in
    let test : (sends plan n && (eqb (core_number plan.cores n) core && eqb (comes_at plan n) step)) ≡ true = grind (arith, nat_tests) in
    let is = copies-is plan n in
    (is.0, ap (λ (t : Bool). cond t (copies plan n) []) test ∙ is.1)

-- what isn't frame n; what has a number below n
isnt : ℕ → Item → Bool
isnt n item = not (is_frame n item)

below : ℕ → Item → Bool
below n item = ltb (number_of item) n

isnt-beacon : (n m : ℕ) → isnt n (Beacon m) ≡ true
unfolding isnt
isnt-beacon n m = refl

isnt-frame : (n m : ℕ) → m ≢ n → isnt n (Frame m) ≡ true
unfolding isnt
isnt-frame n m other = grind (arith, nat_tests)

below-beacon : (n m : ℕ) → m < n → below n (Beacon m) ≡ true
unfolding below
below-beacon n m less = grind (arith, nat_tests)

below-frame : (n m : ℕ) → m < n → below n (Frame m) ≡ true
unfolding below
below-frame n m less = grind (arith, nat_tests)

of_below-beacon : (n m : ℕ) → below n (Beacon m) ≡ true → m < n
unfolding below
of_below-beacon n m is = grind (arith, nat_tests)

of_below-frame : (n m : ℕ) → below n (Frame m) ≡ true → m < n
unfolding below
of_below-frame n m is = grind (arith, nat_tests)

module _ (plan : Plan) (n : ℕ) (sent : sends plan n ≡ true) where
  abbrev pub core : ℕ
  core = core_number plan.cores n

  abbrev pub step : ℕ
  step = comes_at plan n

  comes : Comes plan core step n
  comes = record { sent = sent; its_core = refl; then = refl }

  -- what stands ahead of the frame is this, where the order begins with it
  ahead-is : (front rest : List Item) → order plan core ≡ front ++ Frame n ∷ rest → Each (isnt n) front → ahead_of plan n ≡ front
  unfolding isnt
  ahead-is front rest parts none =
      ap (before_first (is_frame n)) parts ∙ before_first-is (is_frame n) front (Frame n) rest none (grind (arith, nat_tests))

  -- no copy of it stands at an earlier step
  none-before : Each (isnt n) (items_to plan core (step - 1))
  none-before =
      let from = (sends-within plan n sent).0 in
      Each-items_to (isnt n) plan core (comes_at plan n - 1)
      (λ at one within. Each-beacon_at (isnt n) plan core at (λ has to. isnt-beacon n (at - 1)))
      (λ at m within it. isnt-frame n m (λ same. let then = it.then in let here = ap (comes_at plan) same in omega arith))

  module _ (few : step ≤ frame_count plan + greatest_delay) where
    -- ---- a frame without delay

    prompt-front : List Item
    prompt-front = items_to plan core (step - 1) ++ beacon_at plan step

    module _ (prompt : step ≡ n) where
      prompt-order : (rest : List Item) × (order plan core ≡ prompt-front ++ Frame n ∷ rest)
      unfolding prompt-front frames_at
      prompt-order =
          let from = (sends-within plan n sent).0 in
          let at = order-at plan core step (omega (arith, prompt)) few in
          let here : Comes plan core step step = subst (λ (m : ℕ). Comes plan core step m) (sym prompt) comes in
          let own = frame_at-is plan core step step here in
          let others : List Item = flat_map (frame_at plan core step) (range_with_len 1 (step - 1)) in
          let beacon : List Item = beacon_at plan step in
          let before : List Item = items_to plan core (step - 1) in (
            (own.0 ++ others) ++ at.0,
            at.1
                ∙ ap (λ (xs : List Item). before ++ ((beacon ++ (xs ++ others)) ++ at.0)) own.1
                ∙ ap (λ (xs : List Item). before ++ xs) (append_assoc beacon (Frame step ∷ (own.0 ++ others)) at.0)
                ∙ sym (append_assoc before beacon (Frame step ∷ ((own.0 ++ others) ++ at.0)))
                ∙ ap (λ (m : ℕ). (before ++ beacon) ++ Frame m ∷ ((own.0 ++ others) ++ at.0)) prompt,
          )

      pub delivers-prompt : delivers plan n ≡ true
      unfolding delivers prompt-front below
      delivers-prompt =
          let none : Each (isnt n) prompt-front =
          Each-append (isnt n) (items_to plan core (step - 1)) (beacon_at plan step) none-before
          (Each-beacon_at (isnt n) plan core step (λ has to. isnt-beacon n (step - 1))) in
          let all : Each (below n) prompt-front =
          Each-append (below n) (items_to plan core (step - 1)) (beacon_at plan step)
          (Each-items_to (below n) plan core (step - 1)
          (λ at one within. Each-beacon_at (below n) plan core at (λ has to. below-beacon n (at - 1) (omega (arith, prompt))))
          (λ at m within it. below-frame n m (let then = it.then in let from = (sends-within plan n sent).0 in omega (arith, prompt))))
          (Each-beacon_at (below n) plan core step
          (λ has to. below-beacon n (step - 1) (let from = (sends-within plan n sent).0 in omega (arith, prompt)))) in
          let ahead = ahead-is prompt-front prompt-order.0 prompt-order.1 none in
          rw (sent, ahead) all

    -- ---- a late frame

    late-front : List Item
    late-front =
        items_to plan core (step - 1)
        ++ (beacon_at plan step ++ (frame_at plan core step step ++ flat_map (frame_at plan core step) (range_with_len 1 (n - 1))))

    module _ (late : n < step) where
      late-order : (rest : List Item) × (order plan core ≡ late-front ++ Frame n ∷ rest)
      unfolding late-front
      late-order =
          let from = (sends-within plan n sent).0 in
          let at = order-at plan core step (omega arith) few in
          let frames = frames-at plan core step n from late in
          let it = frame_at-is plan core step n comes in
          let before : List Item = items_to plan core (step - 1) in
          let beacon : List Item = beacon_at plan step in
          let own : List Item = frame_at plan core step step in
          let early : List Item = flat_map (frame_at plan core step) (range_with_len 1 (n - 1)) in
          let rest : List Item = it.0 ++ frames.0 in (
            rest ++ at.0,
            at.1
                ∙ ap (λ (xs : List Item). before ++ ((beacon ++ xs) ++ at.0)) (frames.1 ∙ ap (λ (xs : List Item). own ++ (early ++ (xs ++ frames.0))) it.1)
                ∙ ap (λ (xs : List Item). before ++ xs)
                (append_assoc beacon (own ++ (early ++ (Frame n ∷ rest))) at.0
                ∙ ap (λ (xs : List Item). beacon ++ xs)
                (append_assoc own (early ++ (Frame n ∷ rest)) at.0
                ∙ ap (λ (xs : List Item). own ++ xs) (append_assoc early (Frame n ∷ rest) at.0)))
                ∙ ap (λ (xs : List Item). before ++ (beacon ++ xs)) (sym (append_assoc own early (Frame n ∷ (rest ++ at.0))))
                ∙ ap (λ (xs : List Item). before ++ xs) (sym (append_assoc beacon (own ++ early) (Frame n ∷ (rest ++ at.0))))
                ∙ sym (append_assoc before (beacon ++ (own ++ early)) (Frame n ∷ (rest ++ at.0))),
          )

      late-none : Each (isnt n) late-front
      unfolding late-front
      late-none =
          Each-append (isnt n) (items_to plan core (step - 1)) _ none-before
          (Each-append (isnt n) (beacon_at plan step) _ (Each-beacon_at (isnt n) plan core step (λ has to. isnt-beacon n (step - 1)))
          (Each-append (isnt n) (frame_at plan core step step) _
          (Each-frame_at (isnt n) plan core step step (λ it. isnt-frame n step (λ same. omega arith)))
          (Each-lists (isnt n) (frame_at plan core step) (n - 1)
          (λ m one within. Each-frame_at (isnt n) plan core step m (λ it. isnt-frame n m (λ same. omega arith))))))

      late-ahead : ahead_of plan n ≡ late-front
      late-ahead = ahead-is late-front late-order.0 late-order.1 late-none

      -- a frame that comes at an earlier step, or is the step's own
      before-of : (m : ℕ) → comes_before plan.link m step ≡ true → (comes_at plan m ≤ step - 1) ⊎ ((m ≡ step) × (comes_at plan m ≡ m))
      before-of m is =
          elim (cases_lt (comes_at plan m) step) [
            | inl early ↦ inl (omega arith)
            | inr after ↦ inr (grind (arith, nat_tests), grind (arith, nat_tests))
          ]

      ahead-from : IsAhead plan n step → Each (below n) late-front
      unfolding late-front
      ahead-from is =
          let from = (sends-within plan n sent).0 in
          Each-append (below n) (items_to plan core (step - 1)) _
          (Each-items_to (below n) plan core (step - 1)
          (λ at one within. Each-beacon_at (below n) plan core at
          (λ has to. let few_of = is.beacons at has (omega arith) to in below-beacon n (at - 1) (omega arith)))
          (λ at m within it. below-frame n m
          (let sent_m = sends-within plan m it.sent in
          let then = it.then in
          let free = sent_m.2 in
          let yes : comes_before plan.link m step ≡ true = grind (arith, nat_tests) in
          let le = is.frames m sent_m.0 sent_m.1 it.its_core yes in
          other-than m at within it le)))
          (Each-append (below n) (beacon_at plan step) _
          (Each-beacon_at (below n) plan core step
          (λ has to. let few_of = is.beacons step has (omega arith) to in below-beacon n (step - 1) (omega arith)))
          (Each-append (below n) (frame_at plan core step step) _
          (Each-frame_at (below n) plan core step step
          (λ it.
          let sent_m = sends-within plan step it.sent in
          let then = it.then in
          let free = sent_m.2 in
          let yes : comes_before plan.link step step ≡ true = grind (arith, nat_tests) in
          let le = is.frames step sent_m.0 sent_m.1 it.its_core yes in
          absurd (omega arith)))
          (Each-lists (below n) (frame_at plan core step) (n - 1)
          (λ m one within. Each-frame_at (below n) plan core step m (λ it. below-frame n m (omega arith))))))
        where
          other-than : (m at : ℕ) → at ≤ step - 1 → Comes plan core at m → m ≤ n → m < n
          other-than m at within it le =
              let from = (sends-within plan n sent).0 in
              let then = it.then in
              elim (cases_lt m n) [
                | inl less ↦ less
                | inr more ↦ (let same : m ≡ n = omega arith in let here = ap (comes_at plan) same in absurd (omega arith))
              ]

      ahead-of : Each (below n) late-front → IsAhead plan n step
      unfolding late-front
      ahead-of all =
          let before : List Item = items_to plan core (step - 1) in
          let beacon : List Item = beacon_at plan step in
          let own : List Item = frame_at plan core step step in
          let early : List Item = flat_map (frame_at plan core step) (range_with_len 1 (n - 1)) in
          let in_front = Each-front (below n) before (beacon ++ (own ++ early)) all in
          let behind = Each-back (below n) before (beacon ++ (own ++ early)) all in
          let of_beacon = Each-front (below n) beacon (own ++ early) behind in
          let of_own = Each-front (below n) own early (Each-back (below n) beacon (own ++ early) behind) in
          record {
            beacons = λ at has near to.
                let one : 1 ≤ at = grind (arith, nat_tests) in
                elim (cases_lt at step) as (λ _. at ≤ n) [
                  | inl earlier ↦ (
                      let it = of_below-beacon n (at - 1)
                      (of_beacon_at (below n) plan core at has to (of_items_to-beacon (below n) plan core (step - 1) at one (omega arith) in_front)) in
                      omega arith)
                  | inr here ↦ (
                      let same : step ≡ at = omega arith in
                      let it = of_below-beacon n (at - 1)
                      (of_beacon_at (below n) plan core at has to (subst (λ (k : ℕ). Each (below n) (beacon_at plan k)) same of_beacon)) in
                      omega arith)
                ];
            frames = λ m from to own_core yes.
                let free : loses plan.link m ≡ false = grind (arith, nat_tests) in
                let sent_m = sends-free plan m from to free in
                elim (before-of m yes) as (λ _. m ≤ n) [
                  | inl earlier ↦ (
                      let it = of_below-frame n m
                      (of_items_to-frame (below n) plan core (step - 1) (comes_at plan m) m earlier (record { sent = sent_m; its_core = own_core; then = refl }) in_front) in
                      omega arith)
                  | inr here ↦ (
                      let it = of_below-frame n m
                      (of_frame_at (below n) plan core step m (record { sent = sent_m; its_core = own_core; then = here.1 ∙ here.0 })
                      (subst (λ (k : ℕ). Each (below n) (frame_at plan core step k)) (sym here.0) of_own)) in
                      omega arith)
                ];
          }

      pub delivers-ahead : IsAhead plan n step → delivers plan n ≡ true
      unfolding delivers below
      delivers-ahead is = rw (sent, late-ahead) (ahead-from is)

      pub ahead-delivers : delivers plan n ≡ true → IsAhead plan n step
      unfolding delivers below
      ahead-delivers is = ahead-of (sym (ap (λ (b : Bool). b && list_all (below n) (ahead_of plan n)) sent ∙ ap (list_all (below n)) late-ahead) ∙ is)

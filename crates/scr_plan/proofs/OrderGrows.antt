-- How the order of a lane grows, step by step.
use Rattle.std.proofs.Common.{◌≡◌, ℕ, suc, ◌+◌, ◌-◌, ◌<◌, ◌≤◌, List, [], ◌++◌, refl, ap, ◌∙◌, arith}
use Rattle.std.specs.List.{flat_map, range_with_len}
use Rattle.std.proofs.lemmas.List.Concat.{flat_map-cons}
use Rattle.std.proofs.lemmas.Grind.{flat_map-append}
use Rattle.scr_plan.specs.Delays.{greatest_delay}
use Rattle.scr_plan.specs.Plan.{Plan, frame_count}
use Rattle.scr_plan.specs.Order.{Item, frame_at, frames_at, items_at, items_to, order}
use Rattle.scr_plan.proofs.FromOne.{range-append, lists-suc}

-- no step adds nothing
pub items_to-zero : (plan : Plan) (core : ℕ) → items_to plan core 0 ≡ []
unfolding items_to
items_to-zero plan core = refl

-- one step more
pub items_to-suc : (plan : Plan) (core n : ℕ) → items_to plan core (suc n) ≡ items_to plan core n ++ items_at plan core (suc n)
unfolding items_to
items_to-suc plan core n = lists-suc (items_at plan core) n

-- k steps more
pub items_to-append : (plan : Plan) (core n k : ℕ)
    → items_to plan core (n + k) ≡ items_to plan core n ++ flat_map (items_at plan core) (range_with_len (1 + n) k)
unfolding items_to
items_to-append plan core n k =
    ap (flat_map (items_at plan core)) (range-append 1 n k)
    ∙ flat_map-append (items_at plan core) (range_with_len 1 n) (range_with_len (1 + n) k)

-- the order, with what one step adds in sight
pub order-at : (plan : Plan) (core step : ℕ) → 1 ≤ step → step ≤ frame_count plan + greatest_delay
    → (rest : List Item) × (order plan core ≡ items_to plan core (step - 1) ++ (items_at plan core step ++ rest))
order-at plan core step from to =
    let before = step - 1 in
    let k = frame_count plan + greatest_delay - step in
    let all : frame_count plan + greatest_delay ≡ before + suc k = omega arith in
    let here : 1 + before ≡ step = omega arith in
    let rest : List Item = flat_map (items_at plan core) (range_with_len (1 + before + 1) k) in (
      rest,
      ap (items_to plan core) all
          ∙ items_to-append plan core before (suc k)
          ∙ ap (λ (xs : List Item). items_to plan core before ++ xs)
          (flat_map-cons (items_at plan core) (1 + before) (range_with_len (1 + before + 1) k)
          ∙ ap (λ (m : ℕ). items_at plan core m ++ rest) here),
    )

-- the frames of one step, with one in sight
pub frames-at : (plan : Plan) (core step n : ℕ) → 1 ≤ n → n < step → (rest : List Item)
    × (frames_at plan core step ≡ frame_at plan core step step
    ++ (flat_map (frame_at plan core step) (range_with_len 1 (n - 1)) ++ (frame_at plan core step n ++ rest)))
unfolding frames_at
frames-at plan core step n from below =
    let k = step - 1 - n in
    let all : step - 1 ≡ n - 1 + suc k = omega arith in
    let here : 1 + (n - 1) ≡ n = omega arith in
    let f = frame_at plan core step in
    let rest : List Item = flat_map f (range_with_len (1 + (n - 1) + 1) k) in (
      rest,
      ap (λ (m : ℕ). f step ++ flat_map f (range_with_len 1 m)) all
          ∙ ap (λ (ns : List ℕ). f step ++ flat_map f ns) (range-append 1 (n - 1) (suc k))
          ∙ ap (λ (xs : List Item). f step ++ xs)
          (flat_map-append f (range_with_len 1 (n - 1)) (range_with_len (1 + (n - 1)) (suc k))
          ∙ ap (λ (xs : List Item). flat_map f (range_with_len 1 (n - 1)) ++ xs)
          (flat_map-cons f (1 + (n - 1)) (range_with_len (1 + (n - 1) + 1) k) ∙ ap (λ (m : ℕ). f m ++ rest) here)),
    )

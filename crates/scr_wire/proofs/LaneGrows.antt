-- How a lane grows, number by number, and where its messages stand.
use Rattle.std.proofs.Common.{◌≡◌, ℕ, zero, suc, ◌+◌, ◌-◌, ◌<◌, ◌≤◌, List, [], map, ◌∷◌, ◌++◌, length, get_or, sym, ap, ◌∙◌, append_assoc, arith}
use Rattle.std.specs.List.{flat_map, range_with_len}
use Rattle.std.proofs.lemmas.List.{map-append, length-append, get_or-append-add, get_or_append_left}
use Rattle.std.proofs.Math.Seq.{get_or-append_seam}
use Rattle.scr_plan.specs.Plan.{Plan, frame_count}
use Rattle.scr_plan.specs.Order.{items_at, items_to}
use Rattle.scr_plan.proofs.FromOne.{lists-suc}
use Rattle.scr_plan.proofs.OrderGrows.{items_to-zero, items_to-suc, items_to-append}
use Rattle.scr_wire.specs.declared.message.Message.{Message}
use Rattle.scr_wire.specs.declared.message.Message.TheVariants.{End}
use Rattle.scr_wire.specs.Lane.{message_of, added, lane_so_far, last_step, lane}

-- no number adds nothing
pub lane_so_far-zero : (plan : Plan) (core : ℕ) → lane_so_far plan core 0 ≡ []
unfolding lane_so_far
lane_so_far-zero plan core = ap (map (message_of plan)) (items_to-zero plan core)

-- one number more
pub lane_so_far-suc : (plan : Plan) (core n : ℕ) → lane_so_far plan core (suc n) ≡ lane_so_far plan core n ++ added plan core (suc n)
unfolding lane_so_far
lane_so_far-suc plan core n =
    ap (map (message_of plan)) (items_to-suc plan core n)
    ∙ map-append (message_of plan) (items_to plan core n) (items_at plan core (suc n))

-- number by number
pub lane_so_far-numbers : (plan : Plan) (core n : ℕ) → lane_so_far plan core n ≡ flat_map (added plan core) (range_with_len 1 n)
lane_so_far-numbers plan core zero = lane_so_far-zero plan core
lane_so_far-numbers plan core (suc n) =
    lane_so_far-suc plan core n
    ∙ ap (λ (x : List Message). x ++ added plan core (suc n)) (lane_so_far-numbers plan core n)
    ∙ sym (lists-suc (added plan core) n)

-- ---- lengths

pub length-lane : (plan : Plan) (core : ℕ) → length (lane plan core) ≡ length (lane_so_far plan core (last_step plan)) + 1
length-lane plan core = length-append (lane_so_far plan core (last_step plan)) (End (frame_count plan) ∷ [])

-- ---- places

-- what the numbers behind the first n add
abbrev behind : Plan → (core n k : ℕ) → List Message
behind plan core n k = map (message_of plan) (flat_map (items_at plan core) (range_with_len (1 + n) k))

so_far-append : (plan : Plan) (core n k : ℕ) → lane_so_far plan core (n + k) ≡ lane_so_far plan core n ++ behind plan core n k
unfolding lane_so_far
so_far-append plan core n k =
    ap (map (message_of plan)) (items_to-append plan core n k)
    ∙ map-append (message_of plan) (items_to plan core n) (flat_map (items_at plan core) (range_with_len (1 + n) k))

-- what the numbers up to n add stands in front of the lane
pub lane_front : (plan : Plan) (core n : ℕ) → n ≤ last_step plan → (rest : List Message) × (lane plan core ≡ lane_so_far plan core n ++ rest)
lane_front plan core n le =
    let k = last_step plan - n in
    let all : last_step plan ≡ n + k = omega arith in
    let last : List Message = End (frame_count plan) ∷ [] in (
      behind plan core n k ++ last,
      ap (λ (x : ℕ). lane_so_far plan core x ++ last) all
          ∙ ap (λ (x : List Message). x ++ last) (so_far-append plan core n k)
          ∙ append_assoc (lane_so_far plan core n) (behind plan core n k) last,
    )

-- the messages that a number adds stand behind those of the numbers before it
pub lane_at : (plan : Plan) (core n j : ℕ) (d : Message) → n < last_step plan → j < length (added plan core (suc n))
    → get_or (lane plan core) (length (lane_so_far plan core n) + j) d ≡ get_or (added plan core (suc n)) j d
lane_at plan core n j d lt within =
    let front = lane_front plan core (suc n) (omega arith) in
    let before : List Message = lane_so_far plan core n in
    let new : List Message = added plan core (suc n) in
    let parts : lane plan core ≡ before ++ (new ++ front.0) = front.1 ∙ ap (λ (x : List Message). x ++ front.0) (lane_so_far-suc plan core n) ∙ append_assoc before new front.0 in
    ap (λ (x : List Message). get_or x (length before + j) d) parts
    ∙ get_or-append-add before (new ++ front.0) j d
    ∙ get_or_append_left new front.0 d j within

-- the end stands last
pub lane_at_end : (plan : Plan) (core : ℕ) (d : Message) → get_or (lane plan core) (length (lane_so_far plan core (last_step plan))) d ≡ End (frame_count plan)
lane_at_end plan core d = get_or-append_seam (lane_so_far plan core (last_step plan)) (End (frame_count plan)) [] d

-- How many messages a lane has at most.
use Rattle.std.proofs.Common.{◌≡◌, ℕ, zero, suc, ◌+◌, ◌-◌, ◌*◌, ◌≤◌, Bool, true, false, cond, ◌&&◌, [], ◌∷◌, length, ap, ◌∙◌, arith, eqb, leb}
use Rattle.std.specs.List.{flat_map, range_with_len}
use Rattle.std.proofs.Math.Nat.{mul-le-mul}
use Rattle.std.proofs.lemmas.List.{length-append, length-map}
use Rattle.scr_plan.specs.Link.{repeats}
use Rattle.scr_plan.specs.Plan.{Plan, IsPlan, frame_count}
use Rattle.scr_plan.specs.Order.{Beacon, Frame, sends, core_number, comes_at, frame_at, frames_at, has_beacon, beacon_at, items_at}
use Rattle.scr_plan.proofs.FromOne.{lists-suc}
use Rattle.scr_wire.specs.Lane.{message_of, added, lane_so_far, last_step, lane}
use Rattle.scr_wire.proofs.LaneGrows.{lane_so_far-zero, lane_so_far-suc, length-lane}

-- a frame stands twice at most
few_copies : (plan : Plan) (core step n : ℕ) → length (frame_at plan core step n) ≤ 2
unfolding frame_at
few_copies plan core step n = by (sends plan n && (eqb (core_number plan.cores n) core && eqb (comes_at plan n) step)) (repeats plan.link n)
  where
    by : (b r : Bool) → length (cond b (cond r (Frame n ∷ Frame n ∷ []) (Frame n ∷ [])) []) ≤ 2
    by true true = omega arith
    by true false = omega arith
    by false r = omega arith

few_late : (plan : Plan) (core step n : ℕ) → length (flat_map (frame_at plan core step) (range_with_len 1 n)) ≤ 2 * n
few_late plan core step zero = omega arith
few_late plan core step (suc n) =
    let before = few_late plan core step n in
    let one = few_copies plan core step (suc n) in
    let f = frame_at plan core step in
    let all : length (flat_map f (range_with_len 1 (suc n))) ≡ length (flat_map f (range_with_len 1 n)) + length (f (suc n)) =
    ap length (lists-suc f n) ∙ length-append (flat_map f (range_with_len 1 n)) (f (suc n)) in
    omega arith

few_frames : (plan : Plan) (core step : ℕ) → 1 ≤ step → length (frames_at plan core step) ≤ 2 * step
unfolding frames_at
few_frames plan core step from =
    let own = few_copies plan core step step in
    let late = few_late plan core step (step - 1) in
    let all = length-append (frame_at plan core step step) (flat_map (frame_at plan core step) (range_with_len 1 (step - 1))) in
    omega arith

few_beacons : (plan : Plan) (step : ℕ) → length (beacon_at plan step) ≤ 1
unfolding beacon_at
few_beacons plan step = by (has_beacon step && leb step (frame_count plan))
  where
    by : (b : Bool) → length (cond b (Beacon (step - 1) ∷ []) []) ≤ 1
    by true = omega arith
    by false = omega arith

few_added : (plan : Plan) (core step : ℕ) → 1 ≤ step → length (added plan core step) ≤ 2 * step + 1
few_added plan core step from =
    let beacons = few_beacons plan step in
    let frames = few_frames plan core step from in
    let both = length-append (beacon_at plan step) (frames_at plan core step) in
    let same = length-map (items_at plan core step) (message_of plan) in
    omega arith

length_so_far : (plan : Plan) (core n : ℕ) → length (lane_so_far plan core n) ≤ n * (n + 2)
length_so_far plan core zero = let none : length (lane_so_far plan core 0) ≡ 0 = ap length (lane_so_far-zero plan core) in omega arith
length_so_far plan core (suc n) =
    let before = length_so_far plan core n in
    let more = few_added plan core (suc n) (omega arith) in
    let all : length (lane_so_far plan core (suc n)) ≡ length (lane_so_far plan core n) + length (added plan core (suc n)) =
    ap length (lane_so_far-suc plan core n) ∙ length-append (lane_so_far plan core n) (added plan core (suc n)) in
    omega arith

-- a lane has few messages
pub few_messages : (plan : Plan) (core : ℕ) → IsPlan plan → length (lane plan core) ≤ 2000000000000
few_messages plan core h =
    let so_far = length_so_far plan core (last_step plan) in
    let whole = length-lane plan core in
    let few = h.few_rows in
    let steps : last_step plan ≤ 1001000 = omega arith in
    let more : last_step plan + 2 ≤ 1001002 = omega arith in
    let all : last_step plan * (last_step plan + 2) ≤ 1001000 * 1001002 = mul-le-mul steps more in
    omega arith

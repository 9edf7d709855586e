-- What the first messages of a lane decide.
use Rattle.std.proofs.Common.{◌≡◌, ℕ, zero, suc, ◌+◌, ◌-◌, ◌<◌, ◌≤◌, Bool, true, false, cond, List, [], ◌∷◌, ◌++◌, length, get_or, take, map, max, refl, ap, ◌∙◌, arith, leb}
use Rattle.std.specs.Prelude.{fold}
use Rattle.std.specs.List.{AllByRecursion, list_all}
use Rattle.std.proofs.lemmas.Bool.Decides.{nat_tests}
use Rattle.std.proofs.lemmas.List.{take_all, take_more, map-append}
use Rattle.std.proofs.lemmas.Grind.{fold-append}
use Rattle.scr_plan.specs.Plan.{Plan, frame_count}
use Rattle.scr_plan.specs.Order.{Item, items_to}
use Rattle.scr_plan.specs.Order as item
use Rattle.scr_plan.specs.Delivered.{number_of, delivers}
use Rattle.scr_plan.proofs.Each.{Each, first, Each-back}
use Rattle.scr_plan.proofs.Steps.{sends-within, Each-items_to, Each-beacon_at}
use Rattle.scr_wire.specs.declared.message.Message.{Message}
use Rattle.scr_wire.specs.declared.message.Message.TheVariants.{End}
use Rattle.scr_wire.specs.Lane.{message_of, lane_so_far, last_step, lane, decided_by, decided_by_all, decided}

pub decided-zero : (plan : Plan) (core : ℕ) → decided plan core 0 ≡ 0
unfolding decided
decided-zero plan core = refl

-- one message more
pub decided-suc : (plan : Plan) (core m : ℕ) (d : Message) → m < length (lane plan core) → decided plan core (m + 1) ≡ max (decided plan core m) (decided_by plan (get_or (lane plan core) m d))
unfolding decided
decided-suc plan core m d lt =
    let decides = decided_by plan in
    let before : List Message = take m (lane plan core) in
    let last : Message = get_or (lane plan core) m d in
    ap (decided_by_all plan) (take_more (lane plan core) m d lt)
    ∙ ap (fold max 0) (map-append decides before (last ∷ []))
    ∙ fold-append max 0 (map decides before) (decides last ∷ [])

-- messages that decide nothing above a limit
all_within : (plan : Plan) (limit acc : ℕ) (messages : List Message) → acc ≤ limit → AllByRecursion (λ m. decided_by plan m ≤ limit) messages
    → fold max acc (map (decided_by plan) messages) ≤ limit
all_within plan limit acc [] le within = le
all_within plan limit acc (m ∷ ms) le within =
    let first = within.0 in
    all_within plan limit (max acc (decided_by plan m)) ms (omega arith) within.1

-- messages none of which decides a number above the last frame's
abbrev Within : Plan → List Message → Type 0
Within plan messages = AllByRecursion (λ m. decided_by plan m ≤ frame_count plan) messages

Within-append : (plan : Plan) (xs ys : List Message) → Within plan xs → Within plan ys → Within plan (xs ++ ys)
Within-append plan [] ys p q = q
Within-append plan (x ∷ xs) ys p q = (p.0, Within-append plan xs ys p.1 q)

Within-take : (plan : Plan) (m : ℕ) (xs : List Message) → Within plan xs → Within plan (take m xs)
Within-take plan zero xs p = tt
Within-take plan (suc m) [] p = tt
Within-take plan (suc m) (x ∷ xs) p = (p.0, Within-take plan m xs p.1)

-- a beacon and a frame decide no more than their number
few-of : (plan : Plan) (item : Item) → decided_by plan (message_of plan item) ≤ number_of item
few-of plan (item.Beacon n) = omega arith
few-of plan (item.Frame n) = by (delivers plan n)
  where
    by : (b : Bool) → cond b n 0 ≤ n
    by true = omega arith
    by false = omega arith

few_test : Plan → Item → Bool
few_test plan item = leb (number_of item) (frame_count plan)

Within-items : (plan : Plan) (items : List Item) → Each (few_test plan) items → Within plan (map (message_of plan) items)
unfolding few_test
Within-items plan [] each = tt
Within-items plan (item ∷ items) each =
    let few = few-of plan item in
    let here : leb (number_of item) (frame_count plan) ≡ true = first (few_test plan item) (list_all (few_test plan) items) each in
    let le : number_of item ≤ frame_count plan = grind (arith, nat_tests, here) in (
      omega (arith, few, le),
      Within-items plan items (Each-back (few_test plan) (item ∷ []) items each),
    )

few-items : (plan : Plan) (core n : ℕ) → Each (few_test plan) (items_to plan core n)
unfolding few_test
few-items plan core n =
    Each-items_to (few_test plan) plan core n
    (λ step from to. Each-beacon_at (few_test plan) plan core step (λ has within. grind (arith, nat_tests)))
    (λ step m to comes. let within = (sends-within plan m comes.sent).1 in grind (arith, nat_tests))

Within-so_far : (plan : Plan) (core n : ℕ) → Within plan (lane_so_far plan core n)
unfolding lane_so_far
Within-so_far plan core n = Within-items plan (items_to plan core n) (few-items plan core n)

Within-lane : (plan : Plan) (core : ℕ) → Within plan (lane plan core)
Within-lane plan core =
    Within-append plan (lane_so_far plan core (last_step plan)) (End (frame_count plan) ∷ [])
    (Within-so_far plan core (last_step plan)) (omega arith, tt)

-- nothing above the last frame is decided
pub decided-le : (plan : Plan) (core m : ℕ) → decided plan core m ≤ frame_count plan
unfolding decided
decided-le plan core m = all_within plan (frame_count plan) 0 (take m (lane plan core)) (omega arith) (Within-take plan m (lane plan core) (Within-lane plan core))

-- the whole lane decides all
pub decided-whole : (plan : Plan) (core m : ℕ) → length (lane plan core) ≤ m → decided plan core m ≡ frame_count plan
unfolding decided
decided-whole plan core m le =
    let before : List Message = lane_so_far plan core (last_step plan) in
    let le-all : decided_by_all plan before ≤ frame_count plan = all_within plan (frame_count plan) 0 before (omega arith) (Within-so_far plan core (last_step plan)) in
    let last : max (decided_by_all plan before) (frame_count plan) ≡ frame_count plan = omega arith in
    ap (decided_by_all plan) (take_all m (lane plan core) le)
    ∙ ap (fold max 0) (map-append (decided_by plan) before (End (frame_count plan) ∷ []))
    ∙ fold-append max 0 (map (decided_by plan) before) (frame_count plan ∷ [])
    ∙ last

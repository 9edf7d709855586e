-- What the message at a place of a lane decides, and what a core knows behind it.
use Rattle.std.proofs.Common.{◌≡◌, ℕ, zero, suc, ◌+◌, ◌-◌, ◌<◌, ◌≤◌, ◌⊎◌, Bool, true, false, cond, List, [], map, ◌∷◌, ◌++◌, length, get_or, take, max, Some, inl, inr, arith, refl, sym, ap, subst, ◌∙◌, eqb}
use Rattle.std.specs.Prelude.{fold, slice_get}
use Rattle.std.proofs.lemmas.Bool.{cases_lt}
use Rattle.std.proofs.lemmas.Bool.Decides.{nat_tests}
use Rattle.std.proofs.lemmas.List.{take_more, take_all, take-append-le, map-append, length-append}
use Rattle.std.proofs.lemmas.Grind.{fold-append}
use Rattle.std.proofs.lemmas.Option.{get_or_from_slice_get, slice_get_within}
use Rattle.scr_base.specs.declared.row.Row.{Row}
use Rattle.scr_plan.specs.Plan.{Plan, IsPlan, frame_count}
use Rattle.scr_plan.specs.Order.{Item, order}
use Rattle.scr_plan.specs.Order as item
use Rattle.scr_plan.specs.Delivered.{delivers, delivers_to, is_frame, number_of}
use Rattle.scr_plan.proofs.Delivering.{Decides-delivered_to}
use Rattle.scr_wire.specs.declared.message.Message.{Message}
use Rattle.scr_wire.specs.declared.message.Message.TheVariants.{Frame, Beacon, End}
use Rattle.scr_wire.specs.declared.message.MessageKind.TheVariants as kind
use Rattle.scr_wire.specs.Spelling as message
use Rattle.scr_wire.specs.Lane.{message_of, frame, lane_so_far, lane, decided_by, decided_by_all, decided}
use Rattle.scr_wire.proofs.Decides.{decided-zero, decided-suc, decided-le, decided-whole}
use Rattle.scr_replica.specs.Entries.{Knows, IsFrameTo, entries_up_to, with_lost}
use Rattle.scr_replica.specs.Told.{Told, untold, greatest_number, IsTold}
use Rattle.scr_replica.proofs.Lost.{length-with_lost}
use Rattle.scr_replica.proofs.Knowing.{knows_lost, Knows-end, length-entries}
use Rattle.scr_replica.proofs.LaneItems.{greatest, decided_from, decided-few}
use Rattle.scr_replica.proofs.Taken.{delivered-all, delivered-before, taken-delivered, passed-decided}

-- the message at a place is that of an item, or the last
message-at : (f : Item → Message) (items : List Item) (last : Message) (m : ℕ) (it : Message) → slice_get (map f items ++ last ∷ []) m ≡ Some it
    → (m < length items × (it ≡ f (get_or items m (item.Beacon 0)))) ⊎ ((m ≡ length items) × (it ≡ last))
message-at f [] last zero it e = inr (refl, cc)
message-at f [] last (suc m) it e = absurd cc
message-at f (x ∷ items) last zero it e = inl (omega arith, cc)
message-at f (x ∷ items) last (suc m) it e =
    elim (message-at f items last m it e) [
      | inl here ↦ inl (let below = here.0 in omega arith, here.1)
      | inr end ↦ inr (let at = end.0 in omega arith, end.1)
    ]

take-map : (f : Item → Message) (m : ℕ) (items : List Item) → take m (map f items) ≡ map f (take m items)
take-map f zero items = refl
take-map f (suc m) [] = refl
take-map f (suc m) (x ∷ items) = ap (λ (xs : List Message). f x ∷ xs) (take-map f m items)

length-map : (f : Item → Message) (items : List Item) → length (map f items) ≡ length items
length-map f [] = refl
length-map f (x ∷ items) = ap suc (length-map f items)

is-beacon : (plan : Plan) (it : Item) (n : ℕ) → Beacon n ≡ message_of plan it → it ≡ item.Beacon n
is-beacon plan (item.Beacon m) n e = cc
is-beacon plan (item.Frame m) n e = absurd cc

is-frame : (plan : Plan) (it : Item) (n : ℕ) (rows : List Row) → Frame n rows ≡ message_of plan it
    → (it ≡ item.Frame n) × (Frame n rows ≡ frame plan n)
is-frame plan (item.Beacon m) n rows e = absurd cc
is-frame plan (item.Frame m) n rows e =
    let same : n ≡ m = ap message.number_of e in
    (ap item.Frame (sym same), e ∙ ap (frame plan) (sym same))

pub kind-of-item : (plan : Plan) (it : Item) → message.kind_of (message_of plan it) ≡ kind.End → ⊥
kind-of-item plan (item.Beacon m) e = absurd cc
kind-of-item plan (item.Frame m) e = absurd cc

isnt-end : (plan : Plan) (it : Item) (n : ℕ) → End n ≡ message_of plan it → ⊥
isnt-end plan (item.Beacon m) n e = absurd cc
isnt-end plan (item.Frame m) n e = absurd cc

-- all frames up to n that are delivered to the core are among those that the first m messages of its lane decide
abbrev pub Stands : Plan → (core m n : ℕ) → Type 0
Stands plan core m n = (f : ℕ) → f ≤ n → delivers_to plan core f ≡ true → f ≤ decided plan core m

module _ (plan : Plan) (core : ℕ) where
  abbrev pub items : List Item
  items = order plan core

  front-is : (m : ℕ) → m ≤ length items → take m (lane plan core) ≡ map (message_of plan) (take m items)
  unfolding lane_so_far
  front-is m le =
      let len = length-map (message_of plan) items in
      take-append-le m (map (message_of plan) items) (End (frame_count plan) ∷ []) (omega arith) ∙ take-map (message_of plan) m items

  decided-is : (m : ℕ) → m ≤ length items → decided plan core m ≡ decided_from plan 0 (take m items)
  unfolding decided
  decided-is m le = ap (decided_by_all plan) (front-is m le)

  greatest-is : (m : ℕ) → m ≤ length items → greatest_number plan core m ≡ greatest plan 0 (take m items)
  unfolding greatest_number
  greatest-is m le = ap (λ (ms : List Message). fold max 0 (map message.number_of ms)) (front-is m le)

  -- the lane has all items and the end
  pub long : length (lane plan core) ≡ length items + 1
  unfolding lane_so_far
  long = omega (arith, length-append (map (message_of plan) items) (End (frame_count plan) ∷ []), length-map (message_of plan) items)

  -- one message more
  greatest-suc : (m : ℕ) (d : Message) → m < length (lane plan core)
      → greatest_number plan core (m + 1) ≡ max (greatest_number plan core m) (message.number_of (get_or (lane plan core) m d))
  unfolding greatest_number
  greatest-suc m d within =
      let before : List Message = take m (lane plan core) in
      let last : Message = get_or (lane plan core) m d in
      ap (λ (ms : List Message). fold max 0 (map message.number_of ms)) (take_more (lane plan core) m d within)
      ∙ ap (fold max 0) (map-append message.number_of before (last ∷ []))
      ∙ fold-append max 0 (map message.number_of before) (message.number_of last ∷ [])

  -- nothing is decided above the greatest number
  pub decided-under : (m : ℕ) → m ≤ length items → decided plan core m ≤ greatest_number plan core m
  decided-under m le =
      let few = decided-few plan 0 0 (take m items) (omega arith) in
      omega (arith, decided-is m le, greatest-is m le)

  module _ (m : ℕ) (it : Message) (is : slice_get (lane plan core) m ≡ Some it) where
    abbrev pub here : Item
    here = get_or items m (item.Beacon 0)

    within : m < length (lane plan core)
    within = slice_get_within (lane plan core) m it is

    pub place : (m < length items × (it ≡ message_of plan here)) ⊎ ((m ≡ length items) × (it ≡ End (frame_count plan)))
    unfolding lane_so_far
    place = message-at (message_of plan) items (End (frame_count plan)) m it is

    -- what is decided behind it, and the greatest number
    pub decided-next : decided plan core (m + 1) ≡ max (decided plan core m) (decided_by plan it)
    decided-next =
        decided-suc plan core m it within
        ∙ ap (λ (x : Message). max (decided plan core m) (decided_by plan x)) (get_or_from_slice_get (lane plan core) m it it is)

    pub greatest-next : greatest_number plan core (m + 1) ≡ max (greatest_number plan core m) (message.number_of it)
    greatest-next =
        greatest-suc m it within
        ∙ ap (λ (x : Message). max (greatest_number plan core m) (message.number_of x)) (get_or_from_slice_get (lane plan core) m it it is)

    -- behind a beacon's number nothing is left that comes later
    pub stands-beacon : (n : ℕ) → it ≡ Beacon n → Stands plan core m n
    stands-beacon n beacon f to goes =
        elim place as (λ _. f ≤ decided plan core m) [
          | inl one ↦ (
              let at : here ≡ item.Beacon n = is-beacon plan here n (sym beacon ∙ one.1) in
              let le = delivered-before plan core m (item.Beacon 0) one.0 f goes (ap (is_frame f) at) (omega (arith, ap number_of at)) in
              omega (arith, decided-is m (omega (arith, one.0))))
          | inr last ↦ absurd (let e : Beacon n ≡ End (frame_count plan) = sym beacon ∙ last.1 in cc)
        ]

    -- the end has the number of the last frame, and all frames stand before it
    pub end-number : (n : ℕ) → it ≡ End n → n ≡ frame_count plan
    end-number n end =
        elim place as (λ _. n ≡ frame_count plan) [
          | inl one ↦ absurd (isnt-end plan here n (sym end ∙ one.1))
          | inr last ↦ (let e : End n ≡ End (frame_count plan) = sym end ∙ last.1 in cc)
        ]

    pub stands-end : (n : ℕ) → it ≡ End n → IsPlan plan → Stands plan core m n
    stands-end n end is_plan f to goes =
        elim place as (λ _. f ≤ decided plan core m) [
          | inl one ↦ absurd (isnt-end plan here n (sym end ∙ one.1))
          | inr last ↦ (
              let all : take m items ≡ items = take_all m items (omega (arith, last.0)) in
              let le = delivered-all plan core f is_plan goes in
              omega (arith, le, decided-is m (omega (arith, last.0)), ap (decided_from plan 0) all))
        ]

    module _ (n : ℕ) (rows : List Row) (frame-is : it ≡ Frame n rows) where
      at-frame : (m < length items) × (here ≡ item.Frame n) × (Frame n rows ≡ frame plan n)
      at-frame =
          elim place as (λ _. (m < length items) × (here ≡ item.Frame n) × (Frame n rows ≡ frame plan n)) [
            | inl one ↦ (let both = is-frame plan here n rows (sym frame-is ∙ one.1) in (one.0, both.0, both.1))
            | inr last ↦ absurd (let e : Frame n rows ≡ End (frame_count plan) = sym frame-is ∙ last.1 in cc)
          ]

      pub few : m ≤ length items
      few = let less = at-frame.0 in omega arith

      -- a frame whose number is above all before it is delivered to the core
      pub taken-frame : greatest_number plan core m < n → IsFrameTo plan core it
      taken-frame above =
          let goes = taken-delivered plan core m (item.Beacon 0) at-frame.0 n at-frame.1 (omega (arith, greatest-is m few)) in
          subst (IsFrameTo plan core) (sym frame-is) (record { is_frame = at-frame.2; is_delivered = goes })

      -- and the delivered frames below it stand before it
      pub stands-frame : greatest_number plan core m < n → Stands plan core m (n - 1)
      stands-frame above f to goes =
          let other : eqb n f ≡ false = grind (arith, nat_tests) in
          let le =
          delivered-before plan core m (item.Beacon 0) at-frame.0 f goes (ap (is_frame f) at-frame.1 ∙ other)
          (omega (arith, ap number_of at-frame.1)) in
          omega (arith, le, decided-is m few)

      -- any other frame decides nothing
      pub passed-frame : n ≤ greatest_number plan core m → decided plan core (m + 1) ≡ decided plan core m
      passed-frame le =
          let decides = by (delivers plan n) refl in
          omega (arith, decided-next, ap (decided_by plan) frame-is, decides)
        where
          by : (b : Bool) → delivers plan n ≡ b → cond b n 0 ≤ decided plan core m
          by true e =
              let there = passed-decided plan core m (item.Beacon 0) at-frame.0 n at-frame.1 (omega (arith, le, greatest-is m few)) e in
              omega (arith, there, decided-is m few)
          by false e = omega arith

-- ---- what a core knows behind a message

module _ (plan : Plan) (core m : ℕ) (it : Message) (is : slice_get (lane plan core) m ≡ Some it) (old : Told) (told : IsTold plan core m old) where
  known-count : length old.known ≡ decided plan core m
  known-count = ap length told.known ∙ length-entries plan core (decided plan core m)

  -- what is known is what the frames up to a number tell
  pub knows-to : (n : ℕ) → Stands plan core m n → length old.known ≤ n → Knows plan core n old.known
  knows-to n stands little =
      let count = known-count in
      record {
        final = told.known ∙ ap (entries_up_to plan core) (sym count);
        within = little;
        own = λ f to goes. let le = stands f to goes in omega arith;
      }

  -- a beacon more
  pub told-beacon : (n : ℕ) (new : Told) → it ≡ Beacon n → new.known ≡ with_lost (n - plan.history) old.known → new.taken ≡ max old.taken n
      → IsTold plan core (m + 1) new
  told-beacon n new beacon known taken =
      let count = known-count in
      let top : ℕ = max n (length old.known) in
      let stands = stands-beacon plan core m it is n beacon in
      let knows =
      knows-to top
      (λ f to goes.
      elim (cases_lt n f) as (λ _. f ≤ decided plan core m) [
        | inl above ↦ omega arith
        | inr before ↦ stands f before goes
      ])
      (omega arith) in
      let lost = knows_lost plan core top (n - plan.history) old.known (omega arith) (λ p to f later all. omega arith) knows in
      let len = length-with_lost (n - plan.history) old.known in
      let all : length (with_lost (n - plan.history) old.known) ≡ decided plan core (m + 1) =
      omega (arith, len, count, decided-next plan core m it is, ap (decided_by plan) beacon) in
      record {
        known = known ∙ lost.final ∙ ap (entries_up_to plan core) all;
        taken = omega (arith, taken, told.taken, greatest-next plan core m it is, ap message.number_of beacon);
      }

  -- the end
  pub told-end : (n : ℕ) (new : Told) → IsPlan plan → it ≡ End n → new.known ≡ with_lost n old.known → new.taken ≡ max old.taken n
      → IsTold plan core (m + 1) new
  told-end n new is_plan end known taken =
      let count = known-count in
      let number = end-number plan core m it is n end in
      let few = decided-le plan core m in
      let stands = stands-end plan core m it is n end is_plan in
      let knows : Knows plan core (frame_count plan) old.known = subst (λ (k : ℕ). Knows plan core k old.known) number (knows-to n stands (omega arith)) in
      let all : frame_count plan ≡ decided plan core (m + 1) = omega (arith, number, few, decided-next plan core m it is, ap (decided_by plan) end) in
      record {
        known = known ∙ ap (λ (k : ℕ). with_lost k old.known) number ∙ Knows-end plan core old.known knows ∙ ap (entries_up_to plan core) all;
        taken = omega (arith, taken, told.taken, greatest-next plan core m it is, ap message.number_of end);
      }

  module _ (n : ℕ) (rows : List Row) (frame-is : it ≡ Frame n rows) where
    -- a frame that is passed over
    pub told-passed : n ≤ old.taken → IsTold plan core (m + 1) old
    told-passed le =
        let top = told.taken in
        record {
          known = told.known ∙ ap (entries_up_to plan core) (sym (passed-frame plan core m it is n rows frame-is (omega arith)));
          taken = omega (arith, top, greatest-next plan core m it is, ap message.number_of frame-is);
        }

    module _ (above : old.taken < n) where
      over : greatest_number plan core m < n
      over = let top = told.taken in omega arith

      -- a frame that is taken: it is the core's, and the core knows what the frames before it tell
      pub is_frame-to : IsFrameTo plan core it
      is_frame-to = taken-frame plan core m it is n rows frame-is over

      decided-before : decided plan core m < n
      decided-before = let least = decided-under plan core m (few plan core m it is n rows frame-is) in let top = over in omega arith

      pub knows-before : Knows plan core (n - 1) old.known
      knows-before =
          let count = known-count in
          let less = decided-before in
          knows-to (n - 1) (stands-frame plan core m it is n rows frame-is over) (omega arith)

      pub told-frame : (new : Told) → Knows plan core n new.known → new.taken ≡ max old.taken n → IsTold plan core (m + 1) new
      told-frame new knows taken =
          let number = ap message.number_of frame-is in
          let goes : delivers_to plan core n ≡ true = ap (delivers_to plan core) (sym number) ∙ is_frame-to.is_delivered in
          let delivered : delivers plan n ≡ true = ((Decides-delivered_to plan core n).0 goes).is.delivered in
          let le = knows.own n (omega arith) goes in
          let within = knows.within in
          let decides : decided_by plan it ≡ n = ap (decided_by plan) frame-is ∙ ap (λ (b : Bool). cond b n 0) delivered in
          let less = decided-before in
          let all : length new.known ≡ decided plan core (m + 1) = omega (arith, decided-next plan core m it is, decides) in
          record {
            known = knows.final ∙ ap (entries_up_to plan core) all;
            taken = omega (arith, taken, told.taken, greatest-next plan core m it is, number);
          }

-- a core that took nothing
pub told-none : (plan : Plan) (core : ℕ) → IsTold plan core 0 untold
unfolding greatest_number entries_up_to
told-none plan core = record { known = ap (entries_up_to plan core) (sym (decided-zero plan core)); taken = refl }

-- a core that took all
pub told-whole : (plan : Plan) (core m : ℕ) (it : Told) → length (lane plan core) ≤ m → IsTold plan core m it
    → it.known ≡ entries_up_to plan core (frame_count plan)
told-whole plan core m it all told = told.known ∙ ap (entries_up_to plan core) (decided-whole plan core m all)

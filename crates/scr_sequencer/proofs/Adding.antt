-- What goes out at a step is what that step adds to the lane of each core, message by message.
use Rattle.std.proofs.Common.{◌≡◌, ℕ, zero, suc, ◌+◌, ◌-◌, ◌^◌, ◌<◌, ◌≤◌, Bool, true, false, cond, ◌&&◌, List, [], ◌∷◌, ◌++◌, length, get_or, take, map, All, Option, Some, None, Result, Ok, Err, refl, sym, ap, subst, ◌∙◌, arith, eqb, leb}
use Rattle.std.specs.Prelude.{IfOk, OnOk}
use Rattle.std.specs.List.{AllZip, flat_map, range_with_len}
use Rattle.std.specs.Option.{option_to_list}
use Rattle.std.proofs.lemmas.Bool.{false_from_ne_true}
use Rattle.std.proofs.lemmas.Bool.Decides.{nat_tests}
use Rattle.std.proofs.lemmas.List.{append-nil, map-append}
use Rattle.std.proofs.lemmas.List.Concat.{flat_map-cons}
use Rattle.std.proofs.lemmas.List.Elements.{All-append, All-nil}
use Rattle.std.proofs.lemmas.List.FromFn.{take-map-range_with_len, length-map-range_with_len}
use Rattle.std.proofs.lemmas.Grind.{flat_map-append}
use Rattle.scr_base.specs.declared.row.Row.{Row}
use Rattle.scr_base.specs.declared.out_of_memory.OutOfMemory.{OutOfMemory}
use Rattle.scr_plan.specs.Delays.{greatest_delay}
use Rattle.scr_plan.specs.Link.{repeats}
use Rattle.scr_plan.specs.Plan.{Plan, IsPlan, frame_count}
use Rattle.scr_plan.specs.declared.link.Fate.{Fate}
use Rattle.scr_plan.specs.Order as item
use Rattle.scr_plan.specs.Order.{Item, sends, core_number, comes_at, frame_at, frames_at, has_beacon, beacon_at}
use Rattle.scr_plan.proofs.FromOne.{lists-suc}
use Rattle.scr_plan.proofs.Steps.{sends-within}
use Rattle.scr_wire.specs.declared.message.Message.{Message}
use Rattle.scr_wire.specs.declared.message.Message.TheVariants.{Beacon}
use Rattle.scr_wire.specs.Spelling.{IsRow, HasSpelling, Spells, spelling}
use Rattle.scr_wire.specs.Lane.{frame, message_of}
use Rattle.scr_sequencer.specs.Sequence.{Arriving, Sequence, steps_ahead, after}
use Rattle.scr_sequencer.specs.Answers.{Answer, on_its_way, coming, held_for, held_of, IsAnswer, Follows, IsNext, beacons_of, packets_to, Adds, late, AddsFrom}
use Rattle.scr_sequencer.specs.declared.outgoing.Outgoing.{Outgoing}
use Rattle.scr_sequencer.proofs.Following.{next_within, due-is, fits_next, follows_after}

pub AllZip-append : (ms ns : List Message) (ps qs : List (List ℕ)) → AllZip Spells ms ps → AllZip Spells ns qs → AllZip Spells (ms ++ ns) (ps ++ qs)
AllZip-append [] ns [] qs h k = k
AllZip-append [] ns (p ∷ ps) qs h k = absurd h
AllZip-append (m ∷ ms) ns [] qs h k = absurd h
AllZip-append (m ∷ ms) ns (p ∷ ps) qs h k = (h.0, AllZip-append ms ns ps qs h.1 k)

spells_itself : (m : Message) → HasSpelling m → Spells m (spelling m)
spells_itself m h = record { has_spelling = h; spelled = refl }

-- what comes at a step, of all cores
abbrev pub comes : Plan → (step : ℕ) → List Arriving
comes plan step = coming plan step step ++ held_for plan (step - 1) step

-- ---- one frame

-- one or two copies of a frame
abbrev its_messages : (sent own now twice : Bool) → Message → List Message
its_messages sent own now twice m = cond (sent && (own && now)) (cond twice (m ∷ m ∷ []) (m ∷ [])) []

copies_spelled : (sent own now twice : Bool) (m : Message) (it : Arriving) (packets : Arriving → List (List ℕ)) → (sent ≡ true → HasSpelling m)
    → packets it ≡ cond own (spelling m ∷ option_to_list (cond twice (Some (spelling m)) None)) []
    → AllZip Spells (its_messages sent own now twice m) (flat_map packets (cond (sent && now) (it ∷ []) []))
copies_spelled false own now twice m it packets fits is = tt
copies_spelled true true false twice m it packets fits is = tt
copies_spelled true false false twice m it packets fits is = tt
copies_spelled true false true twice m it packets fits is =
    subst (AllZip Spells []) (sym (flat_map-cons packets it [] ∙ append-nil (packets it) ∙ is)) tt
copies_spelled true true true true m it packets fits is =
    let spelled = spells_itself m (fits refl) in
    subst (AllZip Spells (m ∷ m ∷ [])) (sym (flat_map-cons packets it [] ∙ append-nil (packets it) ∙ is)) (spelled, (spelled, tt))
copies_spelled true true true false m it packets fits is =
    subst (AllZip Spells (m ∷ [])) (sym (flat_map-cons packets it [] ∙ append-nil (packets it) ∙ is)) (spells_itself m (fits refl), tt)

module _ (plan : Plan) (core step : ℕ) where
  messages-of : (n : ℕ) → its_messages (sends plan n) (eqb (core_number plan.cores n) core) (eqb (comes_at plan n) step) (repeats plan.link n) (frame plan n)
      ≡ map (message_of plan) (frame_at plan core step n)
  unfolding frame_at
  messages-of n = by (sends plan n && (eqb (core_number plan.cores n) core && eqb (comes_at plan n) step)) (repeats plan.link n)
    where
      by : (b r : Bool) → cond b (cond r (frame plan n ∷ frame plan n ∷ []) (frame plan n ∷ [])) []
          ≡ map (message_of plan) (cond b (cond r (item.Frame n ∷ item.Frame n ∷ []) (item.Frame n ∷ [])) [])
      by true true = refl
      by true false = refl
      by false r = refl

  frame_spelled : (n : ℕ) → (sends plan n ≡ true → HasSpelling (frame plan n))
      → AllZip Spells (map (message_of plan) (frame_at plan core step n)) (flat_map (packets_to core) (coming plan step n))
  frame_spelled n fits =
      subst (λ (ms : List Message). AllZip Spells ms (flat_map (packets_to core) (coming plan step n))) (messages-of n)
      (copies_spelled (sends plan n) (eqb (core_number plan.cores n) core) (eqb (comes_at plan n) step) (repeats plan.link n) (frame plan n)
      (on_its_way plan n) (packets_to core) fits refl)

  -- ---- several frames

  frames_spelled : (n : ℕ) → ((m : ℕ) → m ≤ n → sends plan m ≡ true → HasSpelling (frame plan m))
      → AllZip Spells (map (message_of plan) (flat_map (frame_at plan core step) (range_with_len 1 n))) (flat_map (packets_to core) (held_for plan n step))
  frames_spelled zero fits = tt
  frames_spelled (suc n) fits =
      let f = frame_at plan core step in
      let g = coming plan step in
      let items : List Item = flat_map f (range_with_len 1 n) in
      let its : List Arriving = flat_map g (range_with_len 1 n) in
      subst (λ (z : List Message × List (List ℕ)). AllZip Spells z.0 z.1)
      (λ i. (
        sym (ap (map (message_of plan)) (lists-suc f n) ∙ map-append (message_of plan) items (f (suc n))) i,
        sym (ap (flat_map (packets_to core)) (lists-suc g n) ∙ flat_map-append (packets_to core) its (g (suc n))) i,
      ))
      (AllZip-append (map (message_of plan) items) (map (message_of plan) (f (suc n))) (flat_map (packets_to core) its) (flat_map (packets_to core) (g (suc n)))
      (frames_spelled n (λ m to sent. fits m (omega arith) sent))
      (frame_spelled (suc n) (fits (suc n) (omega arith))))

  step_spelled : ((m : ℕ) → m ≤ step → sends plan m ≡ true → HasSpelling (frame plan m))
      → AllZip Spells (map (message_of plan) (frames_at plan core step)) (flat_map (packets_to core) (comes plan step))
  unfolding frames_at
  step_spelled fits =
      let own : List Item = frame_at plan core step step in
      let others : List Item = flat_map (frame_at plan core step) (range_with_len 1 (step - 1)) in
      let own_its : List Arriving = coming plan step step in
      let other_its : List Arriving = held_for plan (step - 1) step in
      subst (λ (z : List Message × List (List ℕ)). AllZip Spells z.0 z.1)
      (λ i. (sym (map-append (message_of plan) own others) i, sym (flat_map-append (packets_to core) own_its other_its) i))
      (AllZip-append (map (message_of plan) own) (map (message_of plan) others) (flat_map (packets_to core) own_its) (flat_map (packets_to core) other_its)
      (frame_spelled step (fits step (omega arith)))
      (frames_spelled (step - 1) (λ m to sent. fits m (omega arith) sent)))

-- ---- the beacon

beacon_spells : (n : ℕ) → n < 2 ^ 32 → Spells (Beacon n) (spelling (Beacon n))
beacon_spells n fits = spells_itself (Beacon n) (record { number = fits; count = refl; rows = All-nil IsRow })

-- where there is one up to the last row's step, and none behind it
beacon_spelled : (plan : Plan) (step : ℕ) (beacon : Option ℕ) → step ≤ frame_count plan → step < 2 ^ 32
    → beacon ≡ cond (has_beacon step) (Some (step - 1)) None → AllZip Spells (map (message_of plan) (beacon_at plan step)) (map spelling (beacons_of beacon))
unfolding beacon_at
beacon_spelled plan step beacon within few is =
    subst (λ (o : Option ℕ). AllZip Spells (map (message_of plan) (cond (has_beacon step && leb step (frame_count plan)) (item.Beacon (step - 1) ∷ []) [])) (map spelling (beacons_of o))) (sym is)
    (by (has_beacon step) (leb step (frame_count plan)) (grind (arith, nat_tests)))
  where
    by : (b c : Bool) → c ≡ true → AllZip Spells (map (message_of plan) (cond (b && c) (item.Beacon (step - 1) ∷ []) [])) (map spelling (beacons_of (cond b (Some (step - 1)) None)))
    by true true so = (beacon_spells (step - 1) (omega arith), tt)
    by true false so = absurd cc
    by false c so = tt

no_beacon : (plan : Plan) (step : ℕ) → frame_count plan < step → beacon_at plan step ≡ []
unfolding beacon_at
no_beacon plan step above =
    let none : (has_beacon step && leb step (frame_count plan)) ≡ false = grind (arith, nat_tests) in
    ap (λ (b : Bool). cond b (item.Beacon (step - 1) ∷ []) []) none

-- ---- the cores

abbrev IsForCore : Plan → Arriving → Type 0
IsForCore plan it = it.core < plan.cores

frame_for_core : (plan : Plan) (step n : ℕ) → 1 ≤ plan.cores → All (IsForCore plan) (coming plan step n)
frame_for_core plan step n some = by (sends plan n && eqb (comes_at plan n) step)
  where
    below : core_number plan.cores n < plan.cores
    below = omega arith

    by : (b : Bool) → All (IsForCore plan) (cond b (on_its_way plan n ∷ []) [])
    by true = λ k d within. one k d within
      where
        one : (k : ℕ) (d : Arriving) → k < length (on_its_way plan n ∷ []) → IsForCore plan (get_or (on_its_way plan n ∷ []) k d)
        one zero d within = below
        one (suc k) d within = absurd (omega arith)
    by false = All-nil (IsForCore plan)

frames_for_core : (plan : Plan) (step n : ℕ) → 1 ≤ plan.cores → All (IsForCore plan) (held_for plan n step)
frames_for_core plan step zero some = All-nil (IsForCore plan)
frames_for_core plan step (suc n) some =
    subst (All (IsForCore plan)) (sym (lists-suc (coming plan step) n))
    (All-append (IsForCore plan) (held_for plan n step) (coming plan step (suc n)) (frames_for_core plan step n some) (frame_for_core plan step (suc n) some))

-- ---- a step

pub adds : (plan : Plan) (step : ℕ) (out : Answer) → IsPlan plan → out.sent ≡ comes plan step
    → ((m : ℕ) → m ≤ step → sends plan m ≡ true → HasSpelling (frame plan m))
    → AllZip Spells (map (message_of plan) (beacon_at plan step)) (map spelling (beacons_of out.beacon)) → Adds plan step out
adds plan step out is sent fits beacon = record {
  cores =
      subst (All (IsForCore plan)) (sym sent)
      (All-append (IsForCore plan) (coming plan step step) (held_for plan (step - 1) step)
      (frame_for_core plan step step is.a_core) (frames_for_core plan step (step - 1) is.a_core));
  spelled = λ core.
      subst (λ (z : List Message × List Arriving). AllZip Spells z.0 (map spelling (beacons_of out.beacon) ++ flat_map (packets_to core) z.1))
      (λ i. (sym (map-append (message_of plan) (beacon_at plan step) (frames_at plan core step)) i, sym sent i))
      (AllZip-append (map (message_of plan) (beacon_at plan step)) (map (message_of plan) (frames_at plan core step))
      (map spelling (beacons_of out.beacon)) (flat_map (packets_to core) (comes plan step))
      beacon (step_spelled plan core step fits));
}

-- ---- behind the last row

unsent : (plan : Plan) (step n : ℕ) → frame_count plan < n → coming plan step n ≡ []
unsent plan step n above =
    let not_sent : sends plan n ≡ false =
    false_from_ne_true (sends plan n) (λ so. let to = (sends-within plan n so).1 in absurd (omega arith)) in
    ap (λ (b : Bool). cond (b && eqb (comes_at plan n) step) (on_its_way plan n ∷ []) []) not_sent

no_more : (plan : Plan) (step k : ℕ) → held_for plan (frame_count plan + k) step ≡ held_for plan (frame_count plan) step
no_more plan step zero = let same : frame_count plan + 0 ≡ frame_count plan = omega arith in ap (λ (n : ℕ). held_for plan n step) same
no_more plan step (suc k) =
    let next : frame_count plan + suc k ≡ suc (frame_count plan + k) = omega arith in
    let one : suc (frame_count plan + k) ≡ suc (frame_count plan + k) = refl in
    ap (λ (n : ℕ). held_for plan n step) next
    ∙ lists-suc (coming plan step) (frame_count plan + k)
    ∙ ap (λ (its : List Arriving). held_for plan (frame_count plan + k) step ++ its) (unsent plan step (suc (frame_count plan + k)) (omega arith))
    ∙ append-nil (held_for plan (frame_count plan + k) step)
    ∙ no_more plan step k

held-comes : (plan : Plan) (step : ℕ) → frame_count plan < step → held_for plan (frame_count plan) step ≡ comes plan step
held-comes plan step above =
    let k : ℕ = step - 1 - frame_count plan in
    let all : frame_count plan + k ≡ step - 1 = omega arith in
    sym (
    ap (λ (its : List Arriving). its ++ held_for plan (step - 1) step) (unsent plan step step above)
    ∙ ap (λ (n : ℕ). held_for plan n step) (sym all)
    ∙ no_more plan step k)

module _ (plan : Plan) (is : IsPlan plan) (fits : (n : ℕ) → n ≤ frame_count plan → sends plan n ≡ true → HasSpelling (frame plan n)) where
  adds_late : (step : ℕ) → frame_count plan < step → Adds plan step (late (held_for plan (frame_count plan) step))
  adds_late step above =
      adds plan step (late (held_for plan (frame_count plan) step)) is (held-comes plan step above)
      (λ m to sent. fits m (sends-within plan m sent).1 sent)
      (subst (λ (items : List Item). AllZip Spells (map (message_of plan) items) []) (sym (no_beacon plan step above)) tt)

  adds_from : (n k : ℕ) → frame_count plan < n → AddsFrom plan n (map (held_for plan (frame_count plan)) (range_with_len n k))
  adds_from n zero above = tt
  adds_from n (suc k) above = (adds_late n above, adds_from (n + 1) k (omega arith))

-- what is held behind the last row of a plan
pub rest_adds : (plan : Plan) (s : Sequence) (held : List (List Arriving)) → Follows plan s → s.taken ≡ frame_count plan → held ≡ take greatest_delay s.held
    → AddsFrom plan (s.taken + 1) held × (length held ≡ greatest_delay)
unfolding held_of
rest_adds plan s held follows all is =
    let f = held_for plan (frame_count plan) in
    let same : held ≡ map f (range_with_len (frame_count plan + 1) greatest_delay) =
    is ∙ ap (take greatest_delay) (follows.held ∙ ap (held_of plan) all)
    ∙ take-map-range_with_len f (frame_count plan + 1) steps_ahead greatest_delay (omega arith) in
    let fits = λ (n : ℕ) (to : n ≤ frame_count plan) (sent : sends plan n ≡ true). follows.fits n (omega arith) sent in (
      subst (λ (z : ℕ × List (List Arriving)). AddsFrom plan (z.0 + 1) z.1) (λ i. (sym all i, sym same i))
          (adds_from plan follows.is_plan fits (frame_count plan + 1) greatest_delay (omega arith)),
      ap length same ∙ length-map-range_with_len f (frame_count plan + 1) greatest_delay,
    )

-- ---- the next row

next_adds-out : (plan : Plan) (s : Sequence) (row : Row) (fate : Fate) (out : Answer) → Follows plan s → IsNext plan s row fate → IsAnswer s row fate out
    → Adds plan (s.taken + 1) out
next_adds-out plan s row fate out follows next answer =
    let below = next_within plan s row fate follows next in
    let few = follows.is_plan.few_rows in
    let number : s.taken ≡ s.taken + 1 - 1 = omega arith in
    adds plan (s.taken + 1) out follows.is_plan
    (answer.sent ∙ due-is plan s row fate follows next ∙ ap (λ (n : ℕ). coming plan (s.taken + 1) (s.taken + 1) ++ held_for plan n (s.taken + 1)) number)
    (fits_next plan s row fate follows next answer.fits)
    (beacon_spelled plan (s.taken + 1) out.beacon (omega arith) (omega arith)
    (answer.beacon ∙ ap (λ (n : ℕ). cond (has_beacon (s.taken + 1)) (Some n) None) number))

pub next_adds : (s t : Sequence) (row : Row) (fate : Fate) (r : Result Outgoing OutOfMemory) → IfOk r (IsAnswer s row fate) → OnOk r (t ≡ after s row fate)
    → (plan : Plan) → Follows plan s → IsNext plan s row fate → IfOk r (Adds plan (s.taken + 1)) × OnOk r (Follows plan t)
next_adds s t row fate (Ok out) answer then plan follows next = (
  next_adds-out plan s row fate out follows next answer,
  subst (Follows plan) (sym then) (follows_after plan s row fate follows next answer.fits),
)
next_adds s t row fate (Err error) answer then plan follows next = (tt, tt)

-- What the message taken last says of the packets that it decides.
use Rattle.std.proofs.Common.{◌≡◌, ℕ, ◌+◌, ◌-◌, ◌<◌, ◌≤◌, Bool, true, false, cond, ◌&&◌, List, length, max, get_or, Option, Some, None, inl, inr, arith, refl, sym, ap, subst, ◌∙◌, eqb, ltb}
use Rattle.std.specs.Prelude.{slice_get, is_some}
use Rattle.std.proofs.lemmas.Bool.{cases_lt, cases_eq, false_from_ne_true, cond_below, cond_above, and_from, and_right, eq-eqb, ne_eqb}
use Rattle.std.proofs.lemmas.Bool.Decides.{nat_tests}
use Rattle.std.proofs.lemmas.Option.{slice_get-get_or}
use Rattle.scr_base.specs.declared.row.Row.{Row}
use Rattle.scr_plan.specs.Plan.{Plan, IsPlan, frame_count}
use Rattle.scr_plan.specs.Delivered.{delivers, delivers_to}
use Rattle.scr_plan.specs.Kept.{first_carried}
use Rattle.scr_plan.specs.FinalEntry.{final_entry}
use Rattle.scr_plan.proofs.Delivering.{Decides-delivered_to}
use Rattle.scr_plan.proofs.Packets.{carried-own}
use Rattle.scr_wire.specs.declared.message.Message.{Message}
use Rattle.scr_wire.specs.declared.message.Message.TheVariants.{Frame, Beacon, End}
use Rattle.scr_wire.specs.declared.message.MessageKind.{MessageKind}
use Rattle.scr_wire.specs.declared.message.MessageKind.TheVariants as kind
use Rattle.scr_wire.specs.Spelling.{kind_of, number_of, rows_of, Spells}
use Rattle.scr_wire.specs.Lane.{lane, decided, decided_by}
use Rattle.scr_wire.proofs.Decides.{decided-le, decided-zero}
use Rattle.scr_lane.specs.Messages.{SpellsMessage, route}
use Rattle.scr_replica.specs.declared.heard.Heard.{Heard}
use Rattle.scr_replica.specs.declared.entry.Entry.{Entry}
use Rattle.scr_replica.specs.declared.entry.Entry.TheVariants.{Delivered, Carried, Lost}
use Rattle.scr_replica.specs.Entries.{row_in, is_delivered, entry_of, IsFrameTo}
use Rattle.scr_replica.specs.Told.{greatest_number}
use Rattle.scr_replica.specs.Heard.{before_rows, told_row, decided_with, IsLast, HasHeard}
use Rattle.scr_replica.proofs.Packets.{row_in-entry_with, is_some-entry, is_delivered-entry}
use Rattle.scr_replica.proofs.Knowing.{entry_lost, not_carried}
use Rattle.scr_replica.proofs.Frames.{lost_before, row_of_earlier, row_of_own, count_of}
use Rattle.scr_replica.proofs.Deciding.{Stands, decided-next, greatest-next, stands-beacon, stands-end, end-number, taken-frame, stands-frame, passed-frame, decided-under, few, place, here, long, kind-of-item}

-- the row of an entry
row_is : (plan : Plan) (core p : ℕ) (entry : Entry) → entry ≡ entry_of plan core p → row_in entry ≡ final_entry plan core p
row_is plan core p entry is = ap row_in is ∙ row_in-entry_with (delivers_to plan core p) (final_entry plan core p)

ne-le : (p n k : ℕ) → (p ≡ n → ⊥) → p ≤ n → k ≡ n → p ≤ k - 1
ne-le p n k other le same = omega arith

module _ (plan : Plan) (core m p : ℕ) (it : Message) (is : slice_get (lane plan core) m ≡ Some it) (is_plan : IsPlan plan)
    (above : decided plan core m < p) (to : p ≤ decided plan core (m + 1)) where
  -- a message that isn't a frame decides that packets are lost
  lost-stands : (n : ℕ) → Stands plan core m n → p ≤ n → ((f : ℕ) → n < f → f ≤ frame_count plan → p < first_carried plan.history f)
      → entry_of plan core p ≡ Lost
  lost-stands n stands le later = entry_lost plan core p (not_carried plan core n p (decided plan core m) stands above later)

  beacon-lost : (n : ℕ) → it ≡ Beacon n → (entry_of plan core p ≡ Lost) × (p ≤ n - plan.history)
  beacon-lost n beacon =
      let decides : decided plan core (m + 1) ≡ max (decided plan core m) (n - plan.history) =
      decided-next plan core m it is ∙ ap (λ (x : Message). max (decided plan core m) (decided_by plan x)) beacon in
      let far : p ≤ n - plan.history = omega arith in
      (lost-stands n (stands-beacon plan core m it is n beacon) (omega arith) (λ f after all. omega arith), far)

  end-lost : (n : ℕ) → it ≡ End n → (entry_of plan core p ≡ Lost) × (p ≤ n)
  end-lost n end =
      let number = end-number plan core m it is n end in
      let all = decided-le plan core (m + 1) in
      (lost-stands n (stands-end plan core m it is n end is_plan) (omega arith) (λ f after all. absurd (omega arith)), omega arith)

  module _ (n : ℕ) (rows : List Row) (frame-is : it ≡ Frame n rows) where
    over : greatest_number plan core m < n
    over =
        elim (cases_lt (greatest_number plan core m) n) as (λ _. greatest_number plan core m < n) [
          | inl less ↦ less
          | inr late ↦ absurd (let same = passed-frame plan core m it is n rows frame-is late in omega arith)
        ]

    to_core : IsFrameTo plan core it
    to_core = taken-frame plan core m it is n rows frame-is over

    number-is : number_of it ≡ n
    number-is = ap number_of frame-is

    earlier : Stands plan core m (number_of it - 1)
    earlier f le goes = stands-frame plan core m it is n rows frame-is over f (let same = number-is in omega arith) goes

    frame-decides : decided plan core (m + 1) ≡ n
    frame-decides =
        let goes : delivers_to plan core n ≡ true = ap (delivers_to plan core) (sym number-is) ∙ to_core.is_delivered in
        let delivered : delivers plan n ≡ true = ((Decides-delivered_to plan core n).0 goes).is.delivered in
        let decides : decided_by plan it ≡ n = ap (decided_by plan) frame-is ∙ ap (λ (b : Bool). cond b n 0) delivered in
        let least = decided-under plan core m (few plan core m it is n rows frame-is) in
        let greatest = over in
        omega (arith, decided-next plan core m it is)

    frame-own : p ≡ n → delivers_to plan core p ≡ true
    frame-own same = ap (delivers_to plan core) (same ∙ sym number-is) ∙ to_core.is_delivered

    frame-told : told_row it p ≡ final_entry plan core p
    frame-told =
        let first = before_rows it in
        elim (cases_lt first p) as (λ _. told_row it p ≡ final_entry plan core p) [
          | inl behind ↦ (
              let i : ℕ = p - first - 1 in
              let decides = frame-decides in
              let number = number-is in
              let count = count_of plan core it to_core in
              let within : i < length (rows_of it) = omega arith in
              let d : Row = record { w0 = 0; w1 = 0; w2 = 0; w3 = 0; w4 = 0; w5 = 0; w6 = 0 } in
              let row : Row = get_or (rows_of it) i d in
              let at : slice_get (rows_of it) i ≡ Some row = slice_get-get_or (rows_of it) i d within in
              let place : first + i + 1 ≡ p = omega arith in
              let shown : told_row it p ≡ Some row = sym (cond_below first p (slice_get (rows_of it) i) None behind) ∙ at in
              elim (cases_lt p (number_of it)) as (λ _. told_row it p ≡ final_entry plan core p) [
                | inl less ↦
                    shown ∙ row_is plan core p (Carried row)
                    (row_of_earlier plan core it to_core i p row at place (decided plan core m) earlier above less)
                | inr own ↦ shown ∙ row_is plan core p (Delivered row) (row_of_own plan core it to_core i p row at place own)
              ])
          | inr before ↦
              sym (cond_above first p (slice_get (rows_of it) (p - first - 1)) None None before refl)
              ∙ row_is plan core p Lost (sym (lost_before plan core it to_core (decided plan core m) p earlier above before))
        ]

  none-told : before_rows it ≡ number_of it → p ≤ number_of it → entry_of plan core p ≡ Lost → told_row it p ≡ final_entry plan core p
  none-told all le lost =
      sym (cond_above (before_rows it) p (slice_get (rows_of it) (p - before_rows it - 1)) None None (omega arith) refl)
      ∙ row_is plan core p Lost (sym lost)

  -- the row in the message taken last is the final entry
  pub told : told_row it p ≡ final_entry plan core p
  told = by it refl
    where
      by : (x : Message) → it ≡ x → told_row it p ≡ final_entry plan core p
      by (Frame n rows) e = frame-told n rows e
      by (Beacon n) e =
          let lost = beacon-lost n e in
          let number = ap number_of e in
          none-told (let rows : before_rows it ≡ n - 0 = ap before_rows e in omega arith) (let far = lost.1 in omega arith) lost.0
      by (End n) e =
          let lost = end-lost n e in
          let number = ap number_of e in
          none-told (let rows : before_rows it ≡ n - 0 = ap before_rows e in omega arith) (let far = lost.1 in omega arith) lost.0

  lost-none : entry_of plan core p ≡ Lost → (delivers_to plan core p ≡ false) × (final_entry plan core p ≡ None)
  lost-none lost =
      let none : final_entry plan core p ≡ None = sym (row_is plan core p Lost (sym lost)) in (
        false_from_ne_true (delivers_to plan core p)
            (λ own. let known = is_delivered-entry plan p from all core ∙ own in let is_lost = ap is_delivered lost in absurd cc),
        none,
      )
    where
      from : 1 ≤ p
      from = omega arith

      all : p ≤ frame_count plan
      all = let most = decided-le plan core (m + 1) in omega arith

  -- its own frame is delivered to the core where the core knows it and it is the last that is decided
  pub own-is : (is_some (final_entry plan core p) && eqb p (decided plan core (m + 1))) ≡ delivers_to plan core p
  own-is = by it refl
    where
      lost : entry_of plan core p ≡ Lost → (is_some (final_entry plan core p) && eqb p (decided plan core (m + 1))) ≡ delivers_to plan core p
      lost is =
          let both = lost-none is in
          ap (λ (o : Option Row). is_some o && eqb p (decided plan core (m + 1))) both.1 ∙ sym both.0

      by : (x : Message) → it ≡ x → (is_some (final_entry plan core p) && eqb p (decided plan core (m + 1))) ≡ delivers_to plan core p
      by (Frame n rows) e =
          elim (cases_eq p n) as (λ _. (is_some (final_entry plan core p) && eqb p (decided plan core (m + 1))) ≡ delivers_to plan core p) [
            | inl same ↦ (
                let goes = frame-own n rows e same in
                let all = decided-le plan core (m + 1) in
                let known : is_some (final_entry plan core p) ≡ true =
                ap is_some (sym (row_in-entry_with (delivers_to plan core p) (final_entry plan core p)))
                ∙ is_some-entry plan p (omega arith) (omega arith) core ∙ carried-own plan core p goes in
                let here : eqb p (decided plan core (m + 1)) ≡ true = eq-eqb p (decided plan core (m + 1)) (same ∙ sym (frame-decides n rows e)) in
                and_from (is_some (final_entry plan core p)) (eqb p (decided plan core (m + 1))) known here ∙ sym goes)
            | inr other ↦ (
                let decides = frame-decides n rows e in
                let number = number-is n rows e in
                let not_here : eqb p (decided plan core (m + 1)) ≡ false = ne_eqb p (decided plan core (m + 1)) (λ is. other (is ∙ decides)) in
                let not_own : delivers_to plan core p ≡ false =
                false_from_ne_true (delivers_to plan core p)
                (λ goes. let le = earlier n rows e p (ne-le p n (number_of it) other (omega arith) number) goes in absurd (omega arith)) in
                and_right (is_some (final_entry plan core p)) (eqb p (decided plan core (m + 1))) not_here ∙ sym not_own)
          ]
      by (Beacon n) e = lost (beacon-lost n e).0
      by (End n) e = lost (end-lost n e).0

-- ---- one message more

module _ (plan : Plan) (core m : ℕ) (it : Message) (is : slice_get (lane plan core) m ≡ Some it) (is_plan : IsPlan plan) where
  -- what messages decide with it
  pub decided_with-is : (taken : ℕ) → taken ≡ greatest_number plan core m
      → decided_with plan.history (decided plan core m) taken it ≡ decided plan core (m + 1)
  decided_with-is taken top = by it refl
    where
      next : decided plan core (m + 1) ≡ max (decided plan core m) (decided_by plan it)
      next = decided-next plan core m it is

      by : (x : Message) → it ≡ x → decided_with plan.history (decided plan core m) taken it ≡ decided plan core (m + 1)
      by (Frame n rows) e =
          elim (cases_lt taken n) as (λ _. decided_with plan.history (decided plan core m) taken it ≡ decided plan core (m + 1)) [
            | inl above ↦ (
                let greater : greatest_number plan core m < n = omega arith in
                let to_core = taken-frame plan core m it is n rows e greater in
                let number = ap number_of e in
                let goes : delivers_to plan core n ≡ true = ap (delivers_to plan core) (sym number) ∙ to_core.is_delivered in
                let delivered : delivers plan n ≡ true = ((Decides-delivered_to plan core n).0 goes).is.delivered in
                let decides : decided_by plan it ≡ n = ap (decided_by plan) e ∙ ap (λ (b : Bool). cond b n 0) delivered in
                let least = decided-under plan core m (few plan core m it is n rows e) in
                let same : n ≡ decided plan core (m + 1) = omega (arith, next, decides) in
                ap (decided_with plan.history (decided plan core m) taken) e
                ∙ sym (cond_below taken n n (decided plan core m) above) ∙ same)
            | inr late ↦ (
                let kept = passed-frame plan core m it is n rows e (omega arith) in
                ap (decided_with plan.history (decided plan core m) taken) e
                ∙ sym (cond_above taken n n (decided plan core m) (decided plan core m) late refl) ∙ sym kept)
          ]
      by (Beacon n) e =
          let decides = ap (decided_by plan) e in
          ap (decided_with plan.history (decided plan core m) taken) e
          ∙ greater (decided plan core m) (n - plan.history)
          ∙ ap (max (decided plan core m)) (sym decides) ∙ sym next
        where
          greater : (a b : ℕ) → cond (ltb a b) b a ≡ max a b
          greater a b = grind (arith, nat_tests)
      by (End n) e =
          let decides = ap (decided_by plan) e in
          let number = end-number plan core m it is n e in
          let most = decided-le plan core m in
          let all : n ≡ decided plan core (m + 1) = omega (arith, next, decides) in
          ap (decided_with plan.history (decided plan core m) taken) e ∙ all

  -- the end stands last, and nothing else does
  pub end-last : kind_of it ≡ kind.End → m + 1 ≡ length (lane plan core)
  end-last end =
      elim (place plan core m it is) as (λ _. m + 1 ≡ length (lane plan core)) [
        | inl one ↦ absurd (kind-of-item plan (here plan core m it is) (sym (ap kind_of one.1) ∙ end))
        | inr last ↦ (let all = long plan core in omega (arith, last.0))
      ]

  pub others-before : (kind_of it ≡ kind.End → ⊥) → m + 1 < length (lane plan core)
  others-before other =
      elim (place plan core m it is) as (λ _. m + 1 < length (lane plan core)) [
        | inl one ↦ (let all = long plan core in omega (arith, one.0))
        | inr last ↦ absurd (other (ap kind_of last.1))
      ]

-- ---- what a replica keeps of the messages

module _ (plan : Plan) (core m : ℕ) (is_plan : IsPlan plan) where
  -- the row that the last packet has is the final entry
  pub entry-is : (packet : Option (List ℕ)) (bytes : List ℕ) (p : ℕ) (row : Option Row) → packet ≡ Some bytes → IsLast plan core m packet
      → decided plan core (m - 1) < p → p ≤ decided plan core m → ((message : Message) → Spells message bytes → row ≡ told_row message p)
      → row ≡ final_entry plan core p
  entry-is packet bytes p row is last above to tells =
      let here : IsLast plan core m (Some bytes) = subst (IsLast plan core m) is last in
      let place : ℕ = here.0 in
      let next : m ≡ place + 1 = here.1 in
      let shown = here.2 in
      let back : m - 1 ≡ place = omega arith in
      tells shown.message shown.spells
      ∙ told plan core place p shown.message shown.stands is_plan (subst (λ (k : ℕ). decided plan core k < p) back above)
      (subst (λ (k : ℕ). p ≤ decided plan core k) next to)

  -- and whether the core was delivered the packet's frame
  pub own-of : (packet : Option (List ℕ)) (p : ℕ) → IsLast plan core m packet → decided plan core (m - 1) < p → p ≤ decided plan core m
      → (is_some (final_entry plan core p) && eqb p (decided plan core m)) ≡ delivers_to plan core p
  own-of None p last above to =
      absurd (let none = ap (decided plan core) last in let nothing = decided-zero plan core in omega arith)
  own-of (Some bytes) p last above to =
      let place : ℕ = last.0 in
      let next : m ≡ place + 1 = last.1 in
      let shown = last.2 in
      let back : m - 1 ≡ place = omega arith in
      subst (λ (k : ℕ). (is_some (final_entry plan core p) && eqb p (decided plan core k)) ≡ delivers_to plan core p) (sym next)
      (own-is plan core place p shown.message shown.stands is_plan (subst (λ (k : ℕ). decided plan core k < p) back above)
      (subst (λ (k : ℕ). p ≤ decided plan core k) next to))

  pub hears : (packet : List ℕ) (old new : Heard) (said : MessageKind) (number : ℕ) → SpellsMessage (route plan core) m packet
      → HasHeard plan core m old
      → ((message : Message) → Spells message packet → (said ≡ kind_of message) × (number ≡ number_of message))
      → ((message : Message) → said ≡ kind_of message → number ≡ number_of message
      → new.decided ≡ decided_with plan.history old.decided old.taken message)
      → new.taken ≡ max old.taken number → (new.whole ≡ true → said ≡ kind.End) → (new.whole ≡ false → said ≡ kind.End → ⊥)
      → new.packet ≡ Some packet → HasHeard plan core (m + 1) new
  hears packet old new said number shown heard says decides top whole more last =
      let it : Message = shown.message in
      let same = says it shown.spells in
      let taken = heard.taken in
      record {
        decided =
            decides it same.0 same.1
            ∙ ap (λ (k : ℕ). decided_with plan.history k old.taken it) heard.decided
            ∙ decided_with-is plan core m it shown.stands is_plan old.taken heard.taken;
        taken =
            top ∙ ap (λ (k : ℕ). max k number) heard.taken ∙ ap (max (greatest_number plan core m)) same.1
            ∙ sym (greatest-next plan core m it shown.stands);
        whole = λ e. end-last plan core m it shown.stands is_plan (sym same.0 ∙ whole e);
        not_whole = λ e. others-before plan core m it shown.stands is_plan (λ end. more e (same.0 ∙ end));
        last = subst (IsLast plan core (m + 1)) (sym last) (m, refl, shown);
      }

pub hears-nothing : (plan : Plan) (core : ℕ) → HasHeard plan core 0 (record { packet = None; decided = 0; taken = 0; whole = false })
unfolding greatest_number
hears-nothing plan core = record {
  decided = sym (decided-zero plan core);
  taken = refl;
  whole = λ e. absurd cc;
  not_whole = λ e. let all = long plan core in omega arith;
  last = refl;
}

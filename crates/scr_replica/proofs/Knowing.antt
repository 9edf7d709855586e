-- What a core knows, as its messages come.
use Rattle.std.proofs.Common.{◌≡◌, ℕ, zero, suc, ◌+◌, ◌-◌, ◌<◌, ◌≤◌, Bool, true, false, cond, List, [], ◌∷◌, ◌++◌, length, replicate, Option, Some, None, inl, inr, arith, refl, sym, ap, subst, ◌∙◌, append_assoc}
use Rattle.std.proofs.lemmas.Bool.{false_from_ne_true, cases_lt}
use Rattle.std.proofs.lemmas.List.{length_push, append-nil}
use Rattle.std.proofs.lemmas.List.FromFn.{map-range_with_len_more, length-map-range_with_len}
use Rattle.scr_base.specs.declared.row.Row.{Row}
use Rattle.scr_plan.specs.Delivered.{IsDeliveredTo, delivers_to}
use Rattle.scr_plan.specs.Kept.{first_carried, carries_to}
use Rattle.scr_plan.specs.Plan.{Plan, frame_count, row_of_packet}
use Rattle.scr_plan.proofs.Delivering.{Decides-delivered_to}
use Rattle.scr_plan.proofs.Packets.{Decides-carried}
use Rattle.scr_replica.specs.declared.entry.Entry.{Entry}
use Rattle.scr_replica.specs.declared.entry.Entry.TheVariants.{Delivered, Carried, Lost}
use Rattle.scr_replica.specs.Entries.{entry_with, entry_of, entries_up_to, Knows, with_lost}
use Rattle.scr_replica.proofs.Lost.{length-with_lost}

module _ (plan : Plan) (core : ℕ) where
  -- what is known is final
  abbrev pub IsFinal : List Entry → Type 0
  IsFinal known = known ≡ entries_up_to plan core (length known)

  pub entries-more : (n p : ℕ) → n + 1 ≡ p → entries_up_to plan core p ≡ entries_up_to plan core n ++ entry_of plan core p ∷ []
  unfolding entries_up_to
  entries-more n p next =
      ap (entries_up_to plan core) (sym next) ∙ map-range_with_len_more (entry_of plan core) 1 n p (omega arith)

  pub length-entries : (p : ℕ) → length (entries_up_to plan core p) ≡ p
  unfolding entries_up_to
  length-entries p = length-map-range_with_len (entry_of plan core) 1 p

  -- one final entry more
  pub final_push : (known : List Entry) (entry : Entry) (p : ℕ) → IsFinal known → length known + 1 ≡ p → entry ≡ entry_of plan core p
      → IsFinal (known ++ entry ∷ [])
  final_push known entry p is next same =
      ap (λ (x : List Entry). x ++ entry ∷ []) is
      ∙ ap (λ (x : Entry). entries_up_to plan core (length known) ++ x ∷ []) same
      ∙ sym (entries-more (length known) p next)
      ∙ ap (entries_up_to plan core) (sym (length_push known entry ∙ next))

  final_replicate : (k : ℕ) (known : List Entry) → IsFinal known
      → ((p : ℕ) → length known < p → p ≤ length known + k → entry_of plan core p ≡ Lost) → IsFinal (known ++ replicate k Lost)
  final_replicate zero known is lost = subst IsFinal (sym (append-nil known)) is
  final_replicate (suc k) known is lost =
      let more : length (known ++ Lost ∷ []) ≡ length known + 1 = length_push known Lost in
      let first = final_push known Lost (length known + 1) is refl (sym (lost (length known + 1) (omega arith) (omega arith))) in
      subst IsFinal (append_assoc known (Lost ∷ []) (replicate k Lost))
      (final_replicate k (known ++ Lost ∷ []) first (λ p above to. lost p (omega arith) (omega arith)))

  -- all packets up to a number are lost
  pub final_lost : (number : ℕ) (known : List Entry) → IsFinal known
      → ((p : ℕ) → length known < p → p ≤ number → entry_of plan core p ≡ Lost) → IsFinal (with_lost number known)
  final_lost number known is lost = final_replicate (number - length known) known is (λ p above to. lost p above (omega arith))

  -- ---- entries

  pub entry_lost : (p : ℕ) → carries_to plan core p ≡ false → entry_of plan core p ≡ Lost
  entry_lost p fails = ap (λ (b : Bool). entry_with (delivers_to plan core p) (cond b (row_of_packet plan p) None)) fails

  pub entry_row : (p : ℕ) (row : Row) (own : Bool) → carries_to plan core p ≡ true → row_of_packet plan p ≡ Some row → delivers_to plan core p ≡ own
      → entry_of plan core p ≡ cond own (Delivered row) (Carried row)
  entry_row p row own holds is delivered =
      ap (λ (b : Bool). entry_with (delivers_to plan core p) (cond b (row_of_packet plan p) None)) holds
      ∙ ap (λ (o : Option Row). entry_with (delivers_to plan core p) o) is
      ∙ ap (λ (b : Bool). cond b (Delivered row) (Carried row)) delivered

  -- ---- frames

  pub is_frame_to : (n : ℕ) → delivers_to plan core n ≡ true → IsDeliveredTo plan core n
  is_frame_to n holds = (Decides-delivered_to plan core n).0 holds

  -- a packet above d, where all frames up to n that are delivered to the core are up to d, and no later one carries it
  pub not_carried : (n p d : ℕ) → ((f : ℕ) → f ≤ n → delivers_to plan core f ≡ true → f ≤ d) → d < p
      → ((f : ℕ) → n < f → f ≤ frame_count plan → p < first_carried plan.history f) → carries_to plan core p ≡ false
  not_carried n p d own above none =
      false_from_ne_true (carries_to plan core p)
      (λ holds.
      let is = (Decides-carried plan core p).0 holds in
      let it = is.is_delivered in
      let by = is.carries_it in
      let again : delivers_to plan core is.frame ≡ true = (Decides-delivered_to plan core is.frame).1 it in
      elim (cases_lt n is.frame) as (λ _. ⊥) [
        | inl later ↦ (let early = none is.frame later it.is.to in absurd (omega (arith, by.from)))
        | inr before ↦ (let le = own is.frame before again in absurd (omega (arith, by.to)))
      ])

  -- ---- what is known

  -- so many packets are lost at last
  pub knows_lost : (n number : ℕ) (known : List Entry) → number ≤ n
      → ((p : ℕ) → p ≤ number → (f : ℕ) → n < f → f ≤ frame_count plan → p < first_carried plan.history f)
      → Knows plan core n known → Knows plan core n (with_lost number known)
  knows_lost n number known few none knows =
      let within = knows.within in
      let len = length-with_lost number known in
      record {
        final = final_lost number known knows.final (λ p above to. entry_lost p (not_carried n p (length known) knows.own above (none p to)));
        within = omega arith;
        own = λ frame to holds. let le = knows.own frame to holds in omega arith;
      }

  -- the end
  pub Knows-end : (known : List Entry) → Knows plan core (frame_count plan) known
      → with_lost (frame_count plan) known ≡ entries_up_to plan core (frame_count plan)
  Knows-end known knows =
      let all : Knows plan core (frame_count plan) (with_lost (frame_count plan) known) =
      knows_lost (frame_count plan) (frame_count plan) known (omega arith) (λ p to f later all. absurd (omega arith)) knows in
      let within = knows.within in
      let len : length (with_lost (frame_count plan) known) ≡ frame_count plan = omega (arith, length-with_lost (frame_count plan) known) in
      all.final ∙ ap (entries_up_to plan core) len

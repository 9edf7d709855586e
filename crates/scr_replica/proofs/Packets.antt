-- A packet of a plan: who knows it, and whether it is kept.
use Rattle.std.proofs.Common.{◌≡◌, ℕ, ◌-◌, ◌<◌, ◌≤◌, Bool, true, false, cond, get_or, Option, Some, None, arith, refl, ap, ◌∙◌}
use Rattle.std.specs.Prelude.{is_some}
use Rattle.std.proofs.lemmas.Bool.{false_from_ne_true}
use Rattle.std.proofs.lemmas.Option.{slice_get-get_or}
use Rattle.scr_base.specs.declared.row.Row.{Row}
use Rattle.scr_plan.specs.Delivered.{delivers_to}
use Rattle.scr_plan.specs.Plan.{Plan, IsPlan, frame_count, row_of_packet}
use Rattle.scr_plan.specs.Kept.{carries_to, keeps}
use Rattle.scr_plan.specs.FinalEntry.{final_entry}
use Rattle.scr_plan.proofs.Packets.{kept-by_some, carried-own, kept-carried}
use Rattle.scr_replica.specs.Entries.{row_in, is_delivered, entry_with, entry_of}
use Rattle.scr_replica.specs.OneCore.{kept_row}

is_some-cond : (b : Bool) (row : Row) → is_some (cond b (Some row) None) ≡ b
is_some-cond true row = refl
is_some-cond false row = refl

some_of_cond : (b : Bool) (o : Option Row) (row : Row) → cond b o None ≡ Some row → (b ≡ true) × (o ≡ Some row)
some_of_cond true o row e = (refl, e)
some_of_cond false o row e = absurd cc

pub row_in-entry_with : (own : Bool) (o : Option Row) → row_in (entry_with own o) ≡ o
row_in-entry_with own None = refl
row_in-entry_with true (Some row) = refl
row_in-entry_with false (Some row) = refl

is_delivered-entry_with : (own : Bool) (o : Option Row) → (own ≡ true → is_some o ≡ true) → is_delivered (entry_with own o) ≡ own
is_delivered-entry_with true None known = let e = known refl in absurd cc
is_delivered-entry_with false None known = refl
is_delivered-entry_with true (Some row) known = refl
is_delivered-entry_with false (Some row) known = refl

module _ (plan : Plan) (p : ℕ) (from : 1 ≤ p) (to : p ≤ frame_count plan) where
  the_row : Row
  the_row = get_or plan.rows (p - 1) (record { w0 = 0; w1 = 0; w2 = 0; w3 = 0; w4 = 0; w5 = 0; w6 = 0 })

  row_is : row_of_packet plan p ≡ Some the_row
  unfolding the_row
  row_is = slice_get-get_or plan.rows (p - 1) (record { w0 = 0; w1 = 0; w2 = 0; w3 = 0; w4 = 0; w5 = 0; w6 = 0 }) (omega arith)

  -- a row is kept just where the packet is
  pub is_some-kept_row : is_some (kept_row plan p) ≡ keeps plan p
  is_some-kept_row = ap (λ (o : Option Row). is_some (cond (keeps plan p) o None)) row_is ∙ is_some-cond (keeps plan p) the_row

  -- a packet that nobody knows isn't kept
  pub unknown-unkept : IsPlan plan → ((core : ℕ) → core < plan.cores → final_entry plan core p ≡ None) → kept_row plan p ≡ None
  unknown-unkept is_plan unknown =
      let not_kept : keeps plan p ≡ false =
      false_from_ne_true (keeps plan p)
      (λ holds.
      let some = kept-by_some plan p is_plan holds in
      let none = unknown some.0 some.1 in
      let there : final_entry plan some.0 p ≡ Some the_row = ap (λ (b : Bool). cond b (row_of_packet plan p) None) some.2 ∙ row_is in
      absurd cc) in
      ap (λ (b : Bool). cond b (row_of_packet plan p) None) not_kept

  module _ (core : ℕ) where
    -- a packet that a core knows is kept, with that row
    pub known-kept : (row : Row) → final_entry plan core p ≡ Some row → kept_row plan p ≡ Some row
    known-kept row e =
        let both = some_of_cond (carries_to plan core p) (row_of_packet plan p) row e in
        ap (λ (b : Bool). cond b (row_of_packet plan p) None) (kept-carried plan core p both.0)
        ∙ both.1

    pub is_some-entry : is_some (row_in (entry_of plan core p)) ≡ carries_to plan core p
    is_some-entry =
        ap is_some (row_in-entry_with (delivers_to plan core p) (final_entry plan core p))
        ∙ ap (λ (o : Option Row). is_some (cond (carries_to plan core p) o None)) row_is
        ∙ is_some-cond (carries_to plan core p) the_row

    pub is_delivered-entry : is_delivered (entry_of plan core p) ≡ delivers_to plan core p
    is_delivered-entry =
        is_delivered-entry_with (delivers_to plan core p) (final_entry plan core p)
        (λ holds.
        ap (λ (b : Bool). is_some (cond b (row_of_packet plan p) None)) (carried-own plan core p holds) ∙ ap is_some row_is)

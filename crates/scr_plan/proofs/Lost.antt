-- A packet is lost at every core exactly where it isn't kept.
use Rattle.std.proofs.Common.{◌≡◌, ℕ, ◌-◌, ◌<◌, ◌≤◌, Bool, false, cond, Some, None, get_or, ap, ◌∙◌, arith}
use Rattle.std.proofs.lemmas.Bool.{false_from_ne_true}
use Rattle.std.proofs.lemmas.Option.{slice_get-get_or}
use Rattle.scr_base.specs.declared.row.Row.{Row}
use Rattle.scr_plan.specs.Plan.{Plan, IsPlan, frame_count, row_of_packet}
use Rattle.scr_plan.specs.Kept.{carries_to, keeps}
use Rattle.scr_plan.specs.FinalEntry.{final_entry}
use Rattle.scr_plan.proofs.Packets.{kept-by_some, kept-carried}

-- each packet has a row
has_row : (plan : Plan) (p : ℕ) → 1 ≤ p → p ≤ frame_count plan → (row : Row) × (row_of_packet plan p ≡ Some row)
has_row plan p from to =
    let d : Row = record { w0 = 0; w1 = 0; w2 = 0; w3 = 0; w4 = 0; w5 = 0; w6 = 0 } in
    (get_or plan.rows (p - 1) d, slice_get-get_or plan.rows (p - 1) d (omega arith))

pub lost_unkept : (plan : Plan) (p : ℕ) → IsPlan plan → 1 ≤ p → p ≤ frame_count plan
    → ((core : ℕ) → core < plan.cores → final_entry plan core p ≡ None) → keeps plan p ≡ false
lost_unkept plan p is_plan from to lost =
    false_from_ne_true (keeps plan p)
    (λ kept.
    let some = kept-by_some plan p is_plan kept in
    let none = lost some.0 some.1 in
    let row = has_row plan p from to in
    let there : final_entry plan some.0 p ≡ Some row.0 = ap (λ (b : Bool). cond b (row_of_packet plan p) None) some.2 ∙ row.1 in
    cc)

pub unkept_lost : (plan : Plan) (core p : ℕ) → keeps plan p ≡ false → final_entry plan core p ≡ None
unkept_lost plan core p unkept =
    let none : carries_to plan core p ≡ false =
    false_from_ne_true (carries_to plan core p) (λ carried. let kept = kept-carried plan core p carried in cc) in
    ap (λ (b : Bool). cond b (row_of_packet plan p) None) none

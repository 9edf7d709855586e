-- A frame by what becomes of it on the link: one that is lost isn't delivered, and one that isn't late is.
use Rattle.std.proofs.Common.{◌≡◌, ◌≢◌, ℕ, ◌≤◌, Bool, true, false, cond, refl, sym, ap, ◌∙◌, arith}
use Rattle.scr_plan.specs.Link.{loses, repeats, delays_by, fate_of, delay_in}
use Rattle.scr_plan.specs.Plan.{Plan, frame_count}
use Rattle.scr_plan.specs.Delivered.{delivers}
use Rattle.scr_plan.specs.declared.link.Fate.{Fate}
use Rattle.scr_plan.specs.declared.link.Fate.TheVariants.{Lost, Once, Twice}
use Rattle.scr_plan.proofs.Judged.{judged-lost, judged-prompt}

abbrev made : (lost twice : Bool) (delay : ℕ) → Fate
made lost twice delay = cond lost Lost (cond twice (Twice delay) (Once delay))

lost-is : (lost twice : Bool) (delay : ℕ) → Lost ≡ made lost twice delay → lost ≡ true
lost-is true twice delay is = refl
lost-is false true delay is = absurd cc
lost-is false false delay is = absurd cc

prompt-is : (lost twice : Bool) (delay : ℕ) (fate : Fate) → fate ≡ made lost twice delay → fate ≢ Lost → delay_in fate ≡ 0 → (lost ≡ false) × (delay ≡ 0)
prompt-is true twice delay fate is there zero = absurd (there is)
prompt-is false true delay fate is there zero = (refl, sym (ap delay_in is) ∙ zero)
prompt-is false false delay fate is there zero = (refl, sym (ap delay_in is) ∙ zero)

pub lost-undelivered : (plan : Plan) (n : ℕ) → Lost ≡ fate_of plan.link n → delivers plan n ≡ false
lost-undelivered plan n is =
    judged-lost plan plan.link plan.cores (frame_count plan) n (record { link_is = refl; cores_are = refl; frames_are = refl })
    (lost-is (loses plan.link n) (repeats plan.link n) (delays_by plan.link n) is)

pub prompt-delivered : (plan : Plan) (n : ℕ) (fate : Fate) → 1 ≤ n → n ≤ frame_count plan → fate ≡ fate_of plan.link n → fate ≢ Lost → delay_in fate ≡ 0
    → delivers plan n ≡ true
prompt-delivered plan n fate from to is there zero =
    let both = prompt-is (loses plan.link n) (repeats plan.link n) (delays_by plan.link n) fate is there zero in
    let none = both.1 in
    judged-prompt plan plan.link plan.cores (frame_count plan) n (record { link_is = refl; cores_are = refl; frames_are = refl })
    from to both.0 (omega arith) both.1

use Rattle.std.proofs.Common.{◌≡◌, ◌≤◌, ℕ, false, ap, ◌∙◌, inl, inr, sym, arith, below_more}
use Rattle.std.proofs.lemmas.Bool.{cases_lt}
use Rattle.scr_plan.specs.Delivered.{delivers}
use Rattle.scr_plan.proofs.Packets.{kept-near, kept-by_none}
use Rattle.scr_plan.proofs.carrying.kept.Goals as goal

pub loop-frame-preserved : goal.loop-frame-preserved
loop-frame-preserved c plan parts m from below =
    let n = c.loop-frame.frame in
    let here : delivers plan n ≡ false = sym (c.delivered.ensures plan parts) ∙ c.if-delivered.false in
    below_more (λ (k : ℕ). c.args.p ≤ k → delivers plan k ≡ false) n
    (λ k under above. c.loop-frame.invariant plan parts k above under) (λ above. here) m below from

pub returns-then-delivered : goal.returns-then-delivered
returns-then-delivered c plan parts history =
    let n = c.loop-frame.frame in
    sym (kept-near plan c.args.p n c.requires.a_packet (omega arith) (omega arith) (sym (c.delivered.ensures plan parts) ∙ c.if-delivered.true))

pub returns-else-delivered : goal.returns-else-delivered
returns-else-delivered c plan parts history =
    let n = c.loop-frame.frame in
    let frames = parts.frames_are in
    let here : delivers plan n ≡ false = sym (c.delivered.ensures plan parts) ∙ c.if-delivered.false in
    sym (kept-by_none plan c.args.p
    (λ m from within near.
    elim (cases_lt m n) [
      | inl below ↦ c.loop-frame.invariant plan parts m from below
      | inr above ↦ (let same : n ≡ m = omega arith in ap (delivers plan) (sym same) ∙ here)
    ]))

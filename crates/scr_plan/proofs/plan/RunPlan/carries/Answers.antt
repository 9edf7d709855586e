use Rattle.std.proofs.Common.{◌≡◌, ◌+◌, ◌≤◌, ℕ, true, false, subst, ◌∙◌, sym, refl, length, arith, below_more}
use Rattle.scr_plan.specs.Plan.{Plan, HasParts}
use Rattle.scr_plan.specs.Delivered.{core_number, delivers_to}
use Rattle.scr_plan.specs.Kept.{carries_to}
use Rattle.scr_plan.proofs.Delivering.{delivered_to-undelivered, delivered_to-other, delivered_to-own}
use Rattle.scr_plan.proofs.Packets.{carried-near, carried-by_none}
use Rattle.scr_plan.proofs.plan.RunPlan.carries.Goals as goal
use Rattle.scr_plan.proofs.plan.RunPlan.carries.Goals.{else-core_of-core-via-then-core_of-core+else-delivered, else-core_of-core-via-else-core_of-core}

pub returns-then-delivered-clause-answer : goal.returns-then-delivered-clause-answer
returns-then-delivered-clause-answer c =
    let n = c.loop-frame.frame in
    let it = c.self.inside in
    let plan : Plan = record { rows = it.rows.items; cores = it.cores; history = it.history; link = it.link } in
    let count = c.len-count.ensures in
    let parts : HasParts plan it.link it.cores c.len-count.result = record { link_is = refl; cores_are = refl; frames_are = grind (arith, count) } in
    let own : core_number it.cores n ≡ c.args.core = sym c.core_of.ensures ∙ c.if-core_of-core.true in
    let yes = carried-near plan c.args.core c.args.p n c.requires.a_packet (omega arith) (omega arith)
    (delivered_to-own plan c.args.core n (sym (c.delivered.ensures plan parts) ∙ c.if-delivered.true) own) in
    subst (λ (it : Plan). true ≡ carries_to it c.args.core c.args.p) c.self.view_is (sym yes)

pub loop-frame-preserved : goal.loop-frame-preserved
loop-frame-preserved c =
    let n = c.loop-frame.frame in
    let it = c.self.inside in
    let plan : Plan = record { rows = it.rows.items; cores = it.cores; history = it.history; link = it.link } in
    let count = c.len-count.ensures in
    let parts : HasParts plan it.link it.cores c.len-count.result = record { link_is = refl; cores_are = refl; frames_are = grind (arith, count) } in
    let here : delivers_to c.args.self.now c.args.core n ≡ false =
    subst (λ (it : Plan). delivers_to it c.args.core n ≡ false) c.self.view_is
    (elim c.else-core_of-core.branch [
      | else-core_of-core-via-then-core_of-core+else-delivered w ↦
          delivered_to-undelivered plan c.args.core n (sym (w.delivered.ensures plan parts) ∙ w.if-delivered.false)
      | else-core_of-core-via-else-core_of-core w ↦
          delivered_to-other plan c.args.core n (λ same. w.if-core_of-core.false (c.core_of.ensures ∙ same))
    ]) in
    λ m from below. below_more (λ (k : ℕ). c.args.p ≤ k → delivers_to c.args.self.now c.args.core k ≡ false) n
    (λ k under above. c.loop-frame.invariant k above under) (λ above. here) m below from

pub returns-clause-answer : goal.returns-clause-answer
returns-clause-answer c =
    let it = c.self.inside in
    let plan : Plan = record { rows = it.rows.items; cores = it.cores; history = it.history; link = it.link } in
    let count = c.len-count.ensures in
    let none : (n : ℕ) → c.args.p ≤ n → n ≤ length it.rows.items → n ≤ c.args.p + it.history → delivers_to c.args.self.now c.args.core n ≡ false =
    λ n from to near. c.loop-frame.invariant n from (omega arith) in
    subst (λ (it : Plan). false ≡ carries_to it c.args.core c.args.p) c.self.view_is
    (sym (carried-by_none plan c.args.core c.args.p
    (λ n from to near. subst (λ (it : Plan). delivers_to it c.args.core n ≡ false) (sym c.self.view_is) (none n from to near))))

use Rattle.std.proofs.Common.{◌≡◌, List, take, false, sym, take_all, subst, ap, ◌∙◌, eqb}
use Rattle.std.specs.List.{list_any}
use Rattle.scr_plan.specs.Delays.{IsDelayList}
use Rattle.scr_plan.specs.declared.delays.FrameDelay.{FrameDelay}
use Rattle.scr_plan.proofs.FrameDelays.{delay_of-found, delay_of-none}
use Rattle.scr_plan.proofs.delays.Delays.of.Goals as goal

pub returns-then-delay-n-clause-answer : goal.returns-then-delay-n-clause-answer
returns-then-delay-n-clause-answer c =
    let items = c.deref-delay-items.result.now in
    let i = c.loop-delay.delay-index in
    let found = delay_of-found items c.args.n i _ c.loop-delay.invariant c.loop-delay-test.true c.if-delay-n.true in
    rw (← c.self.view_is, ← c.deref-delay-items.ensures.value) (sym found)

pub returns-clause-answer : goal.returns-clause-answer
returns-clause-answer c =
    let items = c.deref-delay-items.result.now in
    let all : take c.loop-delay.delay-index items ≡ items = take_all c.loop-delay.delay-index items c.loop-delay-test.false in
    let none : list_any (λ (it : FrameDelay). eqb it.frame c.args.n) items ≡ false =
    sym (ap (list_any (λ (it : FrameDelay). eqb it.frame c.args.n)) all) ∙ c.loop-delay.invariant in
    rw (← c.self.view_is, ← c.deref-delay-items.ensures.value) (sym (delay_of-none items c.args.n none))

pub returns-then-delay-n-clause-near : goal.returns-then-delay-n-clause-near
returns-then-delay-n-clause-near c =
    let items = c.deref-delay-items.result.now in
    let i = c.loop-delay.delay-index in
    let each = subst (λ (xs : List FrameDelay). IsDelayList xs) (sym c.deref-delay-items.ensures.value) c.self.invariant in
    (each.each i _ c.loop-delay-test.true).steps_above

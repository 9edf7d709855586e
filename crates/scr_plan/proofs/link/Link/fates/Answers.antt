use Rattle.std.proofs.Common.{◌+◌, ◌≤◌, ◌<◌, sym, subst, arith}
use Rattle.scr_plan.specs.Delays.{greatest_delay}
use Rattle.scr_plan.specs.Link.{Link, IsLink, delay_in}
use Rattle.scr_plan.specs.declared.link.Fate.{Fate}
use Rattle.scr_plan.proofs.FrameDelays.{fate_of-near}
use Rattle.scr_plan.proofs.link.Link.fates.Goals as goal

pub returns-clause-near : goal.returns-clause-near
returns-clause-near c k d within =
    let below : k < c.loop-i.i = let count = c.loop-i.invariant.count in omega arith in
    subst (λ (fate : Fate). delay_in fate ≤ greatest_delay) (sym (c.loop-i.invariant.fates k d below))
    (fate_of-near c.args.self.now (k + 1) (subst (λ (link : Link). IsLink link) c.self.view_is c.self.invariant))

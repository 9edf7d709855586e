use Rattle.std.proofs.Common.{◌≡◌, ℕ, replicate, arith, ap, ◌∙◌}
use Rattle.scr_replica.specs.Told.{untold}
use Rattle.scr_replica.proofs.Awaiting.{AllTook-none}
use Rattle.scr_replica.proofs.filling.new_cores.Goals as goal

pub returns : goal.returns
returns c =
    let all : c.loop.counter ≡ c.args.plan.now.cores = omega (arith, c.loop-test.false, c.loop.auto.counter-end, c.cores-end.ensures.cores) in
    AllTook-none c.args.plan.now c.loop.cores.items c.cores-end.ensures.ranges (c.loop.invariant ∙ ap (λ (k : ℕ). replicate k untold) all)

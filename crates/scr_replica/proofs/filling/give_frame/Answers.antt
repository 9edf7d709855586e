use Rattle.std.proofs.Common.{◌<◌, ◌++◌, sym, ap, subst, arith}
use Rattle.scr_sequencer.specs.Sequence.{Arriving}
use Rattle.scr_sequencer.specs.Answers.{packets_to}
use Rattle.scr_replica.specs.Awaiting.{AllAwait}
use Rattle.scr_replica.proofs.Awaiting.{on_ok_told, frame-spelled, given-once, copy-spelled, given-twice}
use Rattle.scr_replica.proofs.filling.give_frame.Goals as goal

pub give-requires : goal.give-requires
give-requires c =
    let plan = c.args.plan.now in
    let it : Arriving = record { core = c.frame.inside.core; packet = c.frame.inside.packet; copy = c.frame.inside.copy } in
    let below : it.core < plan.cores = omega (arith, c.requires.core, ap (λ (x : Arriving). x.core) c.frame.view_is) in
    let n = c.requires.awaited.0 in
    let rest = c.requires.awaited.1 in
    let await =
    subst (λ (x : Arriving). AllAwait plan n (λ core. packets_to core x ++ rest core) c.args.cores.now) (sym c.frame.view_is) c.requires.awaited.2 in
    frame-spelled plan n it rest c.args.cores.now c.index-cores-frame.result below await

pub give-requires-in-Some : goal.give-requires-in-Some
give-requires-in-Some c =
    let plan = c.args.plan.now in
    let it : Arriving = record { core = c.frame.inside.core; packet = c.frame.inside.packet; copy = c.frame.inside.copy } in
    let below : it.core < plan.cores = omega (arith, c.requires.core, ap (λ (x : Arriving). x.core) c.frame.view_is) in
    let n = c.requires.awaited.0 in
    let rest = c.requires.awaited.1 in
    let await =
    subst (λ (x : Arriving). AllAwait plan n (λ core. packets_to core x ++ rest core) c.args.cores.now) (sym c.frame.view_is) c.requires.awaited.2 in
    copy-spelled plan n it rest c.args.cores.now c.index-cores-frame.result below await c.give.new.core c.in_ok-give.ensures c.in-Some.copy c.in-Some.is

pub returns-in-Some : goal.returns-in-Some
returns-in-Some c =
    let plan = c.args.plan.now in
    let it : Arriving = record { core = c.frame.inside.core; packet = c.frame.inside.packet; copy = c.frame.inside.copy } in
    let below : it.core < plan.cores = omega (arith, c.requires.core, ap (λ (x : Arriving). x.core) c.frame.view_is) in
    λ n rest await.
    let parts = subst (λ (x : Arriving). AllAwait plan n (λ core. packets_to core x ++ rest core) c.args.cores.now) (sym c.frame.view_is) await in
    on_ok_told plan.history c.in-Some.copy c.give.new.core c.give-in-Some.new.core c.give-in-Some.result
    (given-twice plan n it rest c.args.cores.now c.index-cores-frame.result below parts c.give.new.core c.in_ok-give.ensures c.in-Some.copy c.in-Some.is c.give-in-Some.new.core)
    c.give-in-Some.ensures

pub returns-in-None : goal.returns-in-None
returns-in-None c =
    let plan = c.args.plan.now in
    let it : Arriving = record { core = c.frame.inside.core; packet = c.frame.inside.packet; copy = c.frame.inside.copy } in
    let below : it.core < plan.cores = omega (arith, c.requires.core, ap (λ (x : Arriving). x.core) c.frame.view_is) in
    λ n rest await.
    let parts = subst (λ (x : Arriving). AllAwait plan n (λ core. packets_to core x ++ rest core) c.args.cores.now) (sym c.frame.view_is) await in
    given-once plan n it rest c.args.cores.now c.index-cores-frame.result below parts c.give.new.core c.in_ok-give.ensures c.in-None.is

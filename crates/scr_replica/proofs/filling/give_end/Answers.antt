use Rattle.std.proofs.Common.{subst}
use Rattle.scr_plan.specs.Plan.{frame_count}
use Rattle.scr_wire.specs.declared.message.Message.TheVariants.{End}
use Rattle.scr_wire.specs.Spelling.{Spells}
use Rattle.scr_replica.proofs.Awaiting.{on_ok, AllFinal-end}
use Rattle.scr_replica.proofs.filling.give_end.Goals as goal

pub returns : goal.returns
returns c =
    let plan = c.args.plan.now in
    let packet = c.in_ok-encode.field-0 in
    let spells = subst (λ n. Spells (End n) packet) c.requires c.in_ok-encode.ensures in
    λ took.
    on_ok c.give_all-2.result (AllFinal-end plan c.args.cores.now c.give_all-2.new.cores took c.give_all-2.auto.cores)
    (c.give_all-2.ensures (End (frame_count plan)) spells)

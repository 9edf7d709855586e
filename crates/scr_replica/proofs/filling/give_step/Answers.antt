use Rattle.std.proofs.Common.{◌++◌, ◌+◌, ◌<◌, ℕ, List, option_to_list, sym, subst}
use Rattle.std.specs.List.{All, flat_map}
use Rattle.scr_plan.specs.Plan.{frame_count}
use Rattle.scr_sequencer.specs.Sequence.{Arriving}
use Rattle.scr_sequencer.specs.Answers.{Adds, packets_to}
use Rattle.scr_replica.specs.Awaiting.{AllAwait, AllTook}
use Rattle.scr_replica.proofs.Awaiting.{all-behind, begun-parts}
use Rattle.scr_replica.proofs.filling.give_step.Goals as goal
use Rattle.scr_replica.proofs.filling.give_step.Goals.{After-deref}

pub give_own-requires-clause-awaited : goal.give_own-requires-clause-awaited
give_own-requires-clause-awaited c =
    let plan = c.args.plan.now in
    let n = c.requires.0 in
    let own = option_to_list c.outgoing.inside.own in
    let late = c.outgoing.inside.late.items in
    let adds = subst (Adds plan (n + 1)) (sym c.outgoing.view_is) c.requires.3 in
    let rest = λ (core : ℕ). flat_map (packets_to core) late in
    let await = begun-parts plan n c.outgoing.inside.beacon own late c.args.cores.now c.requires.1 c.requires.2 adds in (
      n + 1,
      rest,
      c.in_ok-give_beacon.ensures (n + 1) (λ core. flat_map (packets_to core) own ++ rest core) await,
    )

pub give_frames-requires-clause-core : goal.give_frames-requires-clause-core
give_frames-requires-clause-core c =
    let plan = c.args.plan.now in
    let adds = subst (Adds plan (c.requires.0 + 1)) (sym c.outgoing.view_is) c.requires.3 in
    subst (All (λ (it : Arriving). it.core < plan.cores)) (sym c.deref.ensures.value)
    (all-behind (λ (it : Arriving). it.core < plan.cores) (option_to_list c.outgoing.inside.own) c.outgoing.inside.late.items adds.cores)

-- the late frames are awaited behind the others
late-awaited : (c : After-deref) (n : ℕ) → n < frame_count c.args.plan.now → AllTook c.args.plan.now n c.args.cores.now
    → Adds c.args.plan.now (n + 1) c.args.outgoing.now
    → AllAwait c.args.plan.now (n + 1) (λ core. flat_map (packets_to core) c.deref.result.now) c.give_own.new.cores
late-awaited c n below took to_add =
    let plan = c.args.plan.now in
    let own = option_to_list c.outgoing.inside.own in
    let late = c.outgoing.inside.late.items in
    let adds = subst (Adds plan (n + 1)) (sym c.outgoing.view_is) to_add in
    let rest = λ (core : ℕ). flat_map (packets_to core) late in
    let await = begun-parts plan n c.outgoing.inside.beacon own late c.args.cores.now below took adds in
    let behind = c.in_ok-give_own.ensures (n + 1) rest (c.in_ok-give_beacon.ensures (n + 1) (λ core. flat_map (packets_to core) own ++ rest core) await) in
    subst (λ (frames : List Arriving). AllAwait plan (n + 1) (λ core. flat_map (packets_to core) frames) c.give_own.new.cores)
    (sym c.deref.ensures.value) behind

pub give_frames-requires-clause-awaited : goal.give_frames-requires-clause-awaited
give_frames-requires-clause-awaited c = (c.requires.0 + 1, late-awaited c c.requires.0 c.requires.1 c.requires.2 c.requires.3)

pub returns : goal.returns
returns c = λ n below took adds. c.give_frames.ensures (n + 1) (late-awaited (goal.at.returns c).After-deref n below took adds)

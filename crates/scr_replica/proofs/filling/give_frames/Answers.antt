use Rattle.std.proofs.Common.{◌+◌, ℕ, drop}
use Rattle.std.specs.List.{flat_map}
use Rattle.scr_sequencer.specs.Answers.{packets_to}
use Rattle.scr_replica.proofs.Awaiting.{await-same, frames-next, frames-over}
use Rattle.scr_replica.proofs.filling.give_frames.Goals as goal

pub give_frame-requires-clause-awaited : goal.give_frame-requires-clause-awaited
give_frame-requires-clause-awaited c =
    let n = c.requires.awaited.0 in
    let i : ℕ = c.loop-frame.frame-index in
    let rest = λ (core : ℕ). flat_map (packets_to core) (drop (i + 1) c.args.frames.now) in (
      n,
      rest,
      await-same c.args.plan.now n _ _ c.loop-frame.cores
          (λ core. frames-next c.args.frames.now i c.frame-item.result core c.loop-frame-test.true c.frame-item.is)
          (c.loop-frame.invariant n c.requires.awaited.1),
    )

pub loop-frame-preserved : goal.loop-frame-preserved
loop-frame-preserved c =
    let i : ℕ = c.loop-frame.frame-index in
    let rest = λ (core : ℕ). flat_map (packets_to core) (drop (i + 1) c.args.frames.now) in
    λ n await.
    c.in_ok-give_frame.ensures n rest
    (await-same c.args.plan.now n _ _ c.loop-frame.cores
    (λ core. frames-next c.args.frames.now i c.frame-item.result core c.loop-frame-test.true c.frame-item.is)
    (c.loop-frame.invariant n await))

pub returns : goal.returns
returns c =
    λ n await.
    await-same c.args.plan.now n _ _ c.loop-frame.cores
    (λ core. frames-over c.args.frames.now c.loop-frame.frame-index core c.loop-frame-test.false)
    (c.loop-frame.invariant n await)

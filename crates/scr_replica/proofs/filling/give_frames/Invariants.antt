-- The frames so far are with their cores.
use Rattle.std.proofs.Common.{ℕ, drop}
use Rattle.std.specs.List.{flat_map}
use Rattle.scr_sequencer.specs.Answers.{packets_to}
use Rattle.scr_replica.specs.Awaiting.{AllAwait}
use Rattle.scr_replica.proofs.filling.give_frames.Given as goal

abbrev pub invariant-loop-frame : goal.invariant-loop-frame
invariant-loop-frame l =
    (n : ℕ) → AllAwait l.plan n (λ core. flat_map (packets_to core) l.frames) l.fn.cores
    → AllAwait l.plan n (λ core. flat_map (packets_to core) (drop l.frame-index l.frames)) l.cores

-- The steps so far are with the cores.
use Rattle.std.proofs.Common.{◌≡◌, ◌≤◌, ◌-◌, ◌+◌, length}
use Rattle.scr_plan.specs.Delays.{greatest_delay}
use Rattle.scr_plan.specs.Plan.{frame_count}
use Rattle.scr_sequencer.specs.Answers.{AddsFrom}
use Rattle.scr_replica.specs.Awaiting.{AllTook}
use Rattle.scr_replica.proofs.filling.give_late.Given as goal

abbrev pub invariant-loop-frames : goal.invariant-loop-frames
invariant-loop-frames l = record {
  few : length l.rest.held ≤ greatest_delay;
  took : AllTook l.plan (frame_count l.plan + greatest_delay - length l.rest.held) l.cores;
  adds : AddsFrom l.plan (frame_count l.plan + greatest_delay - length l.rest.held + 1) l.rest.held;
  end : l.rest.end ≡ l.fn.rest.end;
}

abbrev pub decreases-loop-frames : goal.decreases-loop-frames
decreases-loop-frames l = length l.rest.held

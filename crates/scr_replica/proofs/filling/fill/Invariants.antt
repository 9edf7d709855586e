-- The cores took what the steps so far add to their lanes, and the sequencer was given the rows so far.
use Rattle.std.proofs.Common.{◌≡◌}
use Rattle.scr_sequencer.specs.Answers.{Follows}
use Rattle.scr_replica.specs.Awaiting.{AllTook}
use Rattle.scr_replica.proofs.filling.fill.Given as goal

abbrev pub invariant-loop-i : goal.invariant-loop-i
invariant-loop-i l = record {
  follows : Follows l.plan l.sequencer;
  taken : l.sequencer.taken ≡ l.i;
  took : AllTook l.plan l.i l.cores;
}

use Rattle.std.proofs.Common.{◌≡◌, ◌+◌}
use Rattle.scr_sequencer.proofs.tests.frames_carry_the_last_rows_in_order.Given as goal

abbrev pub invariant-loop-n : goal.invariant-loop-n
invariant-loop-n g l = l.sequencer.taken + 1 ≡ l.n

use Rattle.std.proofs.Common.{◌≡◌}
use Rattle.scr_sequencer.proofs.tests.a_beacon_after_each_256_numbers.Given as goal

abbrev pub invariant-loop-n : goal.invariant-loop-n
invariant-loop-n g l = l.sequencer.taken ≡ l.n

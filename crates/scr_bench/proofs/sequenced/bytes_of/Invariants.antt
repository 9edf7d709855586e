use Rattle.std.proofs.Common.{◌≡◌}
use Rattle.scr_bench.proofs.sequenced.bytes_of.Given as goal

abbrev pub invariant-loop-n : goal.invariant-loop-n
invariant-loop-n l = l.sequencer.taken ≡ l.n

use Rattle.std.proofs.Common.{◌≡◌, length}
use Rattle.scr_bench.proofs.rows.rows_of.Given as goal

abbrev pub invariant-loop-n : goal.invariant-loop-n
invariant-loop-n l = length l.rows.items ≡ l.n

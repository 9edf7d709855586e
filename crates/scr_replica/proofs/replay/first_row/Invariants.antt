-- None of the cores so far knows it.
use Rattle.std.proofs.Common.{◌≡◌, ◌<◌, ℕ, None}
use Rattle.scr_replica.specs.Told.{row_at}
use Rattle.scr_replica.proofs.replay.first_row.Given as goal

abbrev pub invariant-loop-core : goal.invariant-loop-core
invariant-loop-core l = (c : ℕ) → c < l.core-index → row_at l.cores c l.place ≡ None

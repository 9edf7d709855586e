-- No core took anything.
use Rattle.std.proofs.Common.{◌≡◌, replicate}
use Rattle.scr_replica.specs.Told.{untold}
use Rattle.scr_replica.proofs.filling.new_cores.Given as goal

abbrev pub invariant-loop : goal.invariant-loop
invariant-loop l = l.cores.items ≡ replicate l.counter untold

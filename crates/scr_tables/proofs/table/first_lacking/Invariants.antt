use Rattle.std.proofs.Common.{◌≡◌, ◌<◌, ℕ, false}
use Rattle.scr_tables.specs.Rules.{lacks_any}
use Rattle.scr_tables.proofs.table.first_lacking.Given as goal

abbrev pub invariant-loop-state : goal.invariant-loop-state
invariant-loop-state l = (state : ℕ) → state < l.state → lacks_any l.rules state ≡ false

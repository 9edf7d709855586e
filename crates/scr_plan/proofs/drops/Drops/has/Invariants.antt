use Rattle.std.proofs.Common.{◌≡◌, take, false}
use Rattle.std.specs.List.{list_any}
use Rattle.scr_plan.specs.Drops.{range_has}
use Rattle.scr_plan.proofs.drops.Drops.has.Given as goal

abbrev pub invariant-loop-range : goal.invariant-loop-range
invariant-loop-range l = list_any (λ range. range_has range l.n) (take l.range-index l.range-items) ≡ false

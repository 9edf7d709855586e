use Rattle.std.proofs.Common.{◌≡◌, take, false, eqb}
use Rattle.std.specs.List.{list_any}
use Rattle.scr_plan.proofs.delays.Delays.of.Given as goal

abbrev pub invariant-loop-delay : goal.invariant-loop-delay
invariant-loop-delay l = list_any (λ it. eqb it.frame l.n) (take l.delay-index l.delay-items) ≡ false

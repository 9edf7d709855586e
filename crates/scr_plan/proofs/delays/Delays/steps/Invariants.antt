use Rattle.std.proofs.Common.{◌≡◌, ◌<◌, ◌+◌, ℕ, get_or, length, take}
use Rattle.scr_plan.specs.Delays.{delay_of}
use Rattle.scr_plan.proofs.delays.Delays.steps.Given as goal

abbrev pub invariant-loop-delay : goal.invariant-loop-delay
invariant-loop-delay l = record {
  count : length l.steps.items ≡ l.fn.count;
  steps : (k : ℕ) → k < l.fn.count → get_or l.steps.items k 0 ≡ delay_of (take l.delay-index l.delay-items) (k + 1);
}

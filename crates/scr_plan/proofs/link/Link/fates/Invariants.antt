use Rattle.std.proofs.Common.{◌≡◌, ◌<◌, ◌+◌, ℕ, get_or, length}
use Rattle.scr_plan.specs.Link.{fate_of}
use Rattle.scr_plan.specs.declared.link.Fate.{Fate}
use Rattle.scr_plan.proofs.link.Link.fates.Given as goal

abbrev pub invariant-loop-i : goal.invariant-loop-i
invariant-loop-i l = record {
  count : length l.fates.items ≡ l.i;
  fates : (k : ℕ) (d : Fate) → k < l.i → get_or l.fates.items k d ≡ fate_of l.self (k + 1);
}

use Rattle.std.proofs.Common.{◌+◌, ◌-◌, ◌*◌, ◌≡◌, ◌≤◌, ◌<◌, ℕ, false, ◌||◌, get_or, length}
use Rattle.scr_plan.proofs.Marking.{so_far}
use Rattle.scr_plan.proofs.drops.DropRange.mark.Given as goal

abbrev pub invariant-loop-n : goal.invariant-loop-n
invariant-loop-n l = record {
  from : 1 ≤ l.n;
  number : (j : ℕ) × (l.n ≡ l.self.first + j * l.self.step);
  marks : (k : ℕ) → k < length l.fn.marks → get_or l.marks k false ≡ (get_or l.fn.marks k false || so_far l.self l.n k);
}

abbrev pub decreases-loop-n : goal.decreases-loop-n
decreases-loop-n l = l.last + 1 - l.n

use Rattle.std.proofs.Common.{◌≡◌, ◌<◌, ◌+◌, ◌||◌, ◌==◌, ℕ, false, get_or, length, take}
use Rattle.std.specs.List.{list_any}
use Rattle.scr_plan.specs.Drops.{has_number}
use Rattle.scr_plan.proofs.link.Link.losses.Given as goal

abbrev pub invariant-loop-n : goal.invariant-loop-n
invariant-loop-n l = record {
  count : length l.losses.items ≡ l.fn.count;
  losses :
      (k : ℕ) → k < l.fn.count
      → get_or l.losses.items k false ≡ (has_number l.self.drops (k + 1) || list_any (λ m. m == k + 1) (take l.n-index l.n-items));
}

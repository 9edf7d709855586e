use Rattle.std.proofs.Common.{◌≡◌, ◌<◌, ◌+◌, ℕ, false, ◌||◌, get_or, length, take}
use Rattle.std.specs.List.{list_any}
use Rattle.scr_plan.specs.Drops.{IsRange, range_has}
use Rattle.scr_plan.proofs.drops.mark_all.Given as goal

abbrev pub invariant-loop-next : goal.invariant-loop-next
invariant-loop-next l = record {
  range : IsRange l.whole;
  marks :
      (k : ℕ) → k < length l.fn.marks
      → (get_or l.marks k false || range_has l.whole (k + 1))
      ≡ (get_or l.fn.marks k false || list_any (λ range. range_has range (k + 1)) (take (l.next-index + 1) l.ranges));
}

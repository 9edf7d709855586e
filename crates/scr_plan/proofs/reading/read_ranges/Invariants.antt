use Rattle.std.proofs.Common.{◌≡◌, ◌<◌, ℕ, length, Ok, slice_index_or}
use Rattle.scr_plan.specs.Spelling.{read_at, place_of}
use Rattle.scr_plan.specs.declared.drops.DropRange.{DropRange}
use Rattle.scr_plan.proofs.reading.read_ranges.Given as goal

abbrev pub invariant-loop-piece : goal.invariant-loop-piece
invariant-loop-piece l = record {
  count : length l.ranges.items ≡ length l.yielded;
  each : (i : ℕ) (d : DropRange) → i < length l.ranges.items → read_at l.text i ≡ Ok (slice_index_or l.ranges.items i d);
  place : l.place ≡ place_of l.text (length l.yielded);
}

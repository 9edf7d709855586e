use Rattle.std.proofs.Common.{◌≡◌, ◌<◌, ℕ, length, Ok, slice_index_or}
use Rattle.scr_tables.specs.Spelling.{read_at, place_of}
use Rattle.scr_tables.specs.declared.rule.Rule.{Rule}
use Rattle.scr_tables.proofs.reading.read_rules.Given as goal

abbrev pub invariant-loop-piece : goal.invariant-loop-piece
invariant-loop-piece l = record {
  count : length l.rules.items ≡ length l.yielded;
  each : (i : ℕ) (d : Rule) → i < length l.rules.items → read_at l.text i ≡ Ok (slice_index_or l.rules.items i d);
  place : l.place ≡ place_of l.text (length l.yielded);
}

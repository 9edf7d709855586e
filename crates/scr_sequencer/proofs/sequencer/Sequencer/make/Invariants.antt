use Rattle.std.proofs.Common.{◌≡◌, ℕ, ◌<◌, [], length, map, get_or}
use Rattle.scr_sequencer.specs.Sequence.{steps_ahead}
use Rattle.scr_sequencer.proofs.sequencer.Sequencer.make.Given as goal

abbrev pub invariant-loop : goal.invariant-loop
invariant-loop l = record {
  capacity : l.held.capacity ≡ steps_ahead;
  count : length l.held.items ≡ l.counter;
  empty : (k : ℕ) → k < l.counter → get_or (map (λ frames. frames.items) l.held.items) k [] ≡ [];
}

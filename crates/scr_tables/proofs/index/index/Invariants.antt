use Rattle.std.proofs.Common.{◌≡◌, ◌<◌, ℕ, length, slice_index_or}
use Rattle.scr_tables.specs.Index.{AreRulesOf}
use Rattle.scr_tables.specs.declared.index.StateRules.{StateRules}
use Rattle.scr_tables.proofs.index.index.Given as goal

abbrev pub invariant-loop-state : goal.invariant-loop-state
invariant-loop-state l = record {
  count : length l.by_state.items ≡ l.state;
  each : (state : ℕ) (d : StateRules) → state < l.state → AreRulesOf l.rules state (slice_index_or l.by_state.items state d);
}

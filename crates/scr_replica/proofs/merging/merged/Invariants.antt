-- The frames so far are merged, whatever the verdicts are of.
use Rattle.std.proofs.Common.{◌≡◌, ◌<◌, ℕ, List, length, get_or, map}
use Rattle.scr_base.specs.declared.row.Row.{Row}
use Rattle.scr_base.specs.declared.row.Verdict.{Verdict}
use Rattle.scr_replica.specs.Answers.{CoreAnswer, courses}
use Rattle.scr_replica.proofs.InOrder.{IsMerged}
use Rattle.scr_replica.proofs.merging.merged.Given as goal

abbrev pub invariant-loop-n : goal.invariant-loop-n
invariant-loop-n l = record {
  count : length l.places.items ≡ length l.results;
  small : (core : ℕ) → get_or l.places.items core 0 < l.n;
  merged : (verdict_after : List Row → Row → Verdict) → map (λ (it : CoreAnswer). it.verdicts) l.results ≡ courses verdict_after l.plan → IsMerged verdict_after l.plan l.n l.places.items l.merged.items;
}

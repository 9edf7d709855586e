-- The packets so far were taken.
use Rattle.std.proofs.Common.{◌≡◌}
use Rattle.scr_replica.specs.OneCore.{kept_rows, course_up_to}
use Rattle.scr_plan.specs.Counts.{counts_up_to}
use Rattle.scr_replica.proofs.replay.replay.Given as goal

abbrev pub invariant-loop-place : goal.invariant-loop-place
invariant-loop-place g l = record {
  state : g.P.Program.StandsFor l.settings l.state (kept_rows l.plan l.place);
  verdicts : l.verdicts.items ≡ course_up_to (g.P.Program.verdict_after l.settings) l.plan l.core l.place;
  counts : l.counts ≡ counts_up_to l.plan l.core l.place;
}

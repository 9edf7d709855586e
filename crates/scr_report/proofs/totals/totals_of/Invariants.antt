-- The totals so far are those of the verdicts so far.
use Rattle.scr_report.proofs.Counting.{AreTotals}
use Rattle.scr_report.proofs.totals.totals_of.Given as goal

abbrev pub invariant-loop-given : goal.invariant-loop-given
invariant-loop-given l = AreTotals l.names l.verdicts l.given-index l.totals.items

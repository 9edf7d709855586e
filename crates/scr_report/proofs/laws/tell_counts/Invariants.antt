use Rattle.std.proofs.Common.{All, take}
use Rattle.scr_report.specs.Grammar.{AreCounts}
use Rattle.scr_report.proofs.laws.tell_counts.Given as goal

abbrev pub invariant-loop-counts : goal.invariant-loop-counts
invariant-loop-counts l = All AreCounts (take l.counts-index l.cores)

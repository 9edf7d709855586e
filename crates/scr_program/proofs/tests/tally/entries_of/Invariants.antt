-- The state stands for the rows so far.
use Rattle.std.proofs.Common.{take}
use Rattle.scr_program.proofs.tests.tally.entries_of.Given as goal

abbrev pub invariant-loop-row : goal.invariant-loop-row
invariant-loop-row g l = g.P.Program.StandsFor l.settings l.state (take l.row-index l.rows)

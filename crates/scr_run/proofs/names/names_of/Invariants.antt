-- The names so far are those of the verdicts so far.
use Rattle.std.proofs.Common.{◌≡◌, take}
use Rattle.scr_run.proofs.names.names_of.Given as goal

abbrev pub invariant-loop-code : goal.invariant-loop-code
invariant-loop-code g l = l.names ≡ take l.code g.P.Program.verdict_names

use Rattle.std.proofs.Common.{◌≡◌}
use Rattle.scr_log.specs.Passes.{IsCurrent}
use Rattle.scr_log.proofs.tests.entry_of.Given as goal

abbrev pub invariant-loop : goal.invariant-loop
invariant-loop g l = record {
  current : IsCurrent l.fn.logs l.pass l.fn.p;
  core : l.pass.core ≡ l.fn.pass.core;
}

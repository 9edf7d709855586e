use Rattle.std.proofs.Common.{◌≡◌}
use Rattle.scr_log.specs.Passes.{IsNext}
use Rattle.scr_log.proofs.tests.publish_when_free.Given as goal

abbrev pub invariant-loop : goal.invariant-loop
invariant-loop g l = record {
  next : IsNext l.fn.logs l.pass l.fn.p;
  core : l.pass.core ≡ l.fn.pass.core;
}

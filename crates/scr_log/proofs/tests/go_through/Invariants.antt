use Rattle.std.proofs.Common.{◌≡◌}
use Rattle.scr_log.proofs.tests.go_through.Given as goal

abbrev pub invariant-loop-entry : goal.invariant-loop-entry
invariant-loop-entry g l = record {
  same : l.pass.logs ≡ l.fn.pass.logs;
  core : l.pass.core ≡ l.fn.pass.core;
  published : l.pass.published ≡ l.p;
  finished : l.pass.finished ≡ l.p;
  number : l.p ≡ l.entry-index;
}

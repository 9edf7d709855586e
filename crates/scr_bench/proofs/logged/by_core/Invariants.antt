use Rattle.std.proofs.Common.{◌≡◌}
use Rattle.scr_bench.proofs.logged.by_core.Given as goal

abbrev pub invariant-loop-i : goal.invariant-loop-i
invariant-loop-i g l = record {
  same : l.pass.logs ≡ l.initial.pass.logs;
  core : l.pass.core ≡ l.initial.pass.core;
  published : l.pass.published ≡ l.i;
  finished : l.pass.finished ≡ l.i;
}

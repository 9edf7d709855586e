use Rattle.std.proofs.Common.{◌≡◌}
use Rattle.scr_log.specs.Passes.{IsCurrent}
use Rattle.scr_bench.proofs.logged.found.Given as goal

abbrev pub invariant-loop-core : goal.invariant-loop-core
invariant-loop-core g l = record {
  current : IsCurrent l.fn.logs l.pass l.fn.p;
  core : l.pass.core ≡ l.fn.pass.core;
}

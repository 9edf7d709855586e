use Rattle.std.proofs.Common.{◌≡◌, ◌≤◌, ◌+◌}
use Rattle.scr_bench.proofs.logged.start_others.Given as goal

abbrev pub invariant-loop : goal.invariant-loop
invariant-loop g l = record {
  same : l.first.logs ≡ l.fn.logs;
  stock : l.plan.cores + 1 ≤ l.first.stock + l.counter;
}

-- The cores so far are claimed, and the ends of the others are still to come.
use Rattle.std.proofs.Common.{◌≡◌, ◌+◌, ◌≤◌, length}
use Rattle.std.specs.Vec.Iter.{into_iter_items}
use Rattle.scr_plan.specs.Limits.{most_cores}
use Rattle.scr_crew.specs.Cores.{OfCores}
use Rattle.scr_crew.specs.Verdicts.{IsNewVerdictEnd}
use Rattle.scr_crew.specs.Workers.{IsNewEnd, IsWorker}
use Rattle.scr_crew.proofs.Coming.{Coming}
use Rattle.scr_crew.proofs.workers.claim_all.Given as goal

abbrev pub invariant-loop-lane : goal.invariant-loop-lane
invariant-loop-lane g l = record {
  of_these : l.free.logs ≡ l.fn.logs;
  stock : most_cores + 1 ≤ l.free.stock + l.core;
  claimed : OfCores (IsWorker (g.P.Program.verdict_after l.fn.settings) l.fn.logs) l.core l.workers.items;
  verdicts : OfCores (IsNewVerdictEnd (g.P.Program.verdict_after l.fn.settings) l.fn.plan) l.core l.verdicts.items;
  spent : length l.spent.items ≡ l.core;
  coming : Coming (IsNewEnd l.fn.plan) l.core l.fn.plan.cores (into_iter_items l.lane-iterator);
}

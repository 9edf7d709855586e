-- The threads so far are those of the first cores, and the others are still to be started.
use Rattle.std.proofs.Common.{length}
use Rattle.std.specs.Vec.Iter.{into_iter_items}
use Rattle.scr_crew.specs.Cores.{OfCores}
use Rattle.scr_crew.specs.Workers.{IsWorker}
use Rattle.scr_crew.specs.Threads.{IsThread}
use Rattle.scr_crew.proofs.Coming.{Coming}
use Rattle.scr_crew.proofs.work.start_all.Given as goal

abbrev pub invariant-loop-worker : goal.invariant-loop-worker
invariant-loop-worker g l =
    OfCores (IsThread l.settings l.plan) (length l.started.items) l.started.items
    × Coming (IsWorker (g.P.Program.verdict_after l.settings) l.logs) (length l.started.items) (length l.fn.workers.items) (into_iter_items l.worker-iterator)

-- The replica has only watched, and the outlet still awaits the verdict.
use Rattle.std.proofs.Common.{◌∷◌, List}
use Rattle.scr_plan.specs.declared.given.Given.{Given}
use Rattle.scr_replica.specs.Ways.{HasWatched}
use Rattle.scr_replica.proofs.worker.give_out.Given as goal

abbrev pub invariant-loop : goal.invariant-loop
invariant-loop g l = record {
  can_go : (goal.iterator-loop g).can_next l.iterator' × (goal.iterator-loop g).is_finite l.iterator';
  watched : HasWatched l.fn.replica l.replica;
  awaits : (whole rest : List Given) → g.O.Outlet.Awaits l.fn.outlet whole (l.given ∷ rest) → g.O.Outlet.Awaits l.outlet whole (l.given ∷ rest);
}

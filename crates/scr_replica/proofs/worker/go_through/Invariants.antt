-- The replica is on its way from the pass that it came with.
use Rattle.std.proofs.Common.{◌≡◌}
use Rattle.scr_replica.specs.declared.standing.Standing.TheVariants as standing
use Rattle.scr_replica.specs.Ways.{IsOnItsWay}
use Rattle.scr_replica.proofs.worker.go_through.Given as goal

abbrev pub invariant-loop : goal.invariant-loop
invariant-loop g l = record {
  can_go : (goal.iterator-loop g).can_next l.iterator' × (goal.iterator-loop g).is_finite l.iterator';
  way : IsOnItsWay (g.P.Program.StandsFor l.settings) (g.P.Program.verdict_after l.settings) (g.O.Outlet.Awaits l.outlet) l.fn.replica.pass l.replica;
  running : l.replica.standing ≡ standing.Running;
}

-- The taker is on its way through the verdicts.
use Rattle.std.proofs.Common.{◌≡◌, List}
use Rattle.scr_base.specs.declared.row.Row.{Row}
use Rattle.scr_base.specs.declared.row.Verdict.{Verdict}
use Rattle.scr_crew.specs.Takers.{IsTaking}
use Rattle.scr_crew.proofs.feeding.feed_and_take.Given as goal

abbrev pub invariant-loop : goal.invariant-loop
invariant-loop g l = record {
  can_go : (goal.iterator-loop g).can_next l.iterator' × (goal.iterator-loop g).is_finite l.iterator';
  of_these : l.caller.free.logs ≡ l.fn.logs;
  way : (verdict_after : List Row → Row → Verdict) (before : g.row.O.Denot) → IsTaking g.T.Taker.IsToTake verdict_after l.fn.plan before l.fn.out l.fn.caller.taking l.fn.taker
      → IsTaking g.T.Taker.IsToTake verdict_after l.fn.plan before l.out l.caller.taking l.taker;
}

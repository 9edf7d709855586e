-- The taker is on its way through the verdicts, and some may be left.
use Rattle.std.proofs.Common.{◌≡◌, List}
use Rattle.scr_base.specs.declared.row.Row.{Row}
use Rattle.scr_base.specs.declared.row.Verdict.{Verdict}
use Rattle.scr_crew.specs.declared.feeding.Tried.TheVariants.{Done}
use Rattle.scr_crew.specs.Takers.{IsTaking}
use Rattle.scr_crew.proofs.feeding.take_turn.Given as goal

abbrev pub invariant-loop : goal.invariant-loop
invariant-loop g l = record {
  unfinished : l.tried ≡ Done → ⊥;
  way : (verdict_after : List Row → Row → Verdict) (before : g.row.O.Denot) → IsTaking g.T.Taker.IsToTake verdict_after l.fn.plan before l.fn.out l.fn.taking l.fn.taker
      → IsTaking g.T.Taker.IsToTake verdict_after l.fn.plan before l.out l.taking l.taker;
}

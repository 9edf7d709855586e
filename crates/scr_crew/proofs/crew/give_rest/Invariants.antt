-- The verdicts that are left to give are those that the taker is to take.
use Rattle.std.proofs.Common.{List, drop}
use Rattle.scr_plan.specs.declared.given.Given.{Given}
use Rattle.scr_crew.proofs.crew.give_rest.Given as goal

abbrev pub invariant-loop-given : goal.invariant-loop-given
invariant-loop-given g l =
    (before : g.row.O.Denot) (rest : List Given) → g.T.Taker.IsToTake l.fn.taker before l.fn.out l.fn.verdicts rest
    → g.T.Taker.IsToTake l.taker before l.out l.fn.verdicts (drop l.given-index l.given-items)

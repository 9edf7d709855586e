use Rattle.std.proofs.Common.{◌-◌}
use Rattle.scr_plan.specs.Plan.{Plan, HasParts}
use Rattle.scr_plan.proofs.Tallies.{AreTallies}
use Rattle.scr_plan.proofs.counting.counts.Given as goal

abbrev pub invariant-loop-frame : goal.invariant-loop-frame
invariant-loop-frame l = (plan : Plan) → HasParts plan l.link l.k l.t → AreTallies plan l.core l.h (l.frame - 1) l.own l.all

use Rattle.std.proofs.Common.{◌≡◌, ℕ, ◌≤◌, ◌<◌, false}
use Rattle.scr_plan.specs.Plan.{Plan, HasParts}
use Rattle.scr_plan.specs.Delivered.{delivers}
use Rattle.scr_plan.proofs.carrying.kept.Given as goal

abbrev pub invariant-loop-frame : goal.invariant-loop-frame
invariant-loop-frame l =
    (plan : Plan) → HasParts plan l.link l.k l.t → (n : ℕ) → l.p ≤ n → n < l.frame → delivers plan n ≡ false

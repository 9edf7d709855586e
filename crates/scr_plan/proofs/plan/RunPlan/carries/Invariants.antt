use Rattle.std.proofs.Common.{◌≡◌, ◌≤◌, ◌<◌, ℕ, false}
use Rattle.scr_plan.specs.Delivered.{delivers_to}
use Rattle.scr_plan.proofs.plan.RunPlan.carries.Given as goal

abbrev pub invariant-loop-frame : goal.invariant-loop-frame
invariant-loop-frame l = (n : ℕ) → l.p ≤ n → n < l.frame → delivers_to l.self l.core n ≡ false

use Rattle.std.proofs.Common.{◌≡◌, ◌<◌, ℕ, false}
use Rattle.scr_plan.specs.Order.{core_number}
use Rattle.scr_plan.specs.Overtaken.{comes_before}
use Rattle.scr_plan.proofs.link.Link.is_overtaken.Given as goal

abbrev pub invariant-loop-frame : goal.invariant-loop-frame
invariant-loop-frame l =
    (f : ℕ) → l.n < f → f < l.frame → core_number l.k f ≡ core_number l.k l.n → comes_before l.self f l.step ≡ false

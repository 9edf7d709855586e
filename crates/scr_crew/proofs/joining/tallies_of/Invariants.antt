-- Where no core was halted, the answers so far are what the first cores should answer.
use Rattle.std.proofs.Common.{◌≡◌, ℕ, List, false}
use Rattle.std.specs.Vec.Iter.{into_iter_items}
use Rattle.scr_base.specs.declared.row.Row.{Row}
use Rattle.scr_plan.specs.Plan.{Plan}
use Rattle.scr_crew.specs.Cores.{OfCores}
use Rattle.scr_crew.specs.Answers.{IsAnswer}
use Rattle.scr_crew.proofs.Answered.{Answered}
use Rattle.scr_crew.proofs.joining.tallies_of.Given as goal

abbrev pub invariant-loop-answer : goal.invariant-loop-answer
invariant-loop-answer g l =
    l.halted ≡ false → (count_after : List Row → ℕ) (plan : Plan)
    → OfCores (IsAnswer count_after plan) plan.cores l.fn.answers.items
    → Answered count_after plan l.cores.items l.flows (into_iter_items l.answer-iterator)

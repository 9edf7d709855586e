use Rattle.std.proofs.Common.{◌<◌, All, take}
use Rattle.scr_plan.specs.declared.given.Given.{Given}
use Rattle.scr_report.proofs.laws.are_named.Given as goal

abbrev pub invariant-loop-given : goal.invariant-loop-given
invariant-loop-given l = All (λ (given : Given). given.verdict.0 < l.count) (take l.given-index l.verdicts)

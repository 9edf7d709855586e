use Rattle.std.proofs.Common.{◌≡◌, ◌<◌, ◌^◌, All, take}
use Rattle.scr_plan.specs.declared.given.Given.{Given}
use Rattle.scr_report.specs.ReadBack.{Grow}
use Rattle.scr_report.specs.Parts.{last_number}
use Rattle.scr_report.proofs.laws.grow.Given as goal

abbrev pub invariant-loop-given : goal.invariant-loop-given
invariant-loop-given l = record {
  last : l.last ≡ last_number 0 (take l.given-index l.verdicts);
  grow : Grow 0 (take l.given-index l.verdicts);
  fit : All (λ (given : Given). given.number < 2 ^ 32) (take l.given-index l.verdicts);
}

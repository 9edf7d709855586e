use Rattle.scr_plan.proofs.Lost.{lost_unkept, unkept_lost}
use Rattle.scr_plan.proofs.laws.lost_to_all.Goals as goal

pub returns : goal.returns
returns c = record {
  lost = λ plan p is_plan from to lost. lost_unkept plan p is_plan from to lost;
  unkept = λ plan core p unkept. unkept_lost plan core p unkept;
}

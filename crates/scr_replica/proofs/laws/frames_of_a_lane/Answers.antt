use Rattle.scr_replica.proofs.TakenInOrder.{frames-taken}
use Rattle.scr_replica.proofs.laws.frames_of_a_lane.Goals as goal

pub returns : goal.returns
returns c = λ plan core is_plan. frames-taken plan core is_plan

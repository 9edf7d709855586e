use Rattle.std.proofs.Common.{arith}
use Rattle.scr_lane.proofs.Places.{few_messages}
use Rattle.scr_lane.proofs.lane.LaneOf.of.Goals as goal

pub returns-clause-few : goal.returns-clause-few
returns-clause-few c =
    let few = few_messages c.of.result.value c.args.core (rw c.of.ensures c.rows-rows.ensures.ranges) in
    omega arith

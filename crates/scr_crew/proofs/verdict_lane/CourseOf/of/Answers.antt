use Rattle.std.proofs.Common.{◌≤◌, ◌<◌, ◌^◌, length, subst, sym, arith}
use Rattle.scr_plan.specs.Plan.{Plan, IsPlan, frame_count}
use Rattle.scr_replica.specs.OneCore.{course}
use Rattle.scr_crew.proofs.Courses.{few_verdicts}
use Rattle.scr_crew.proofs.verdict_lane.CourseOf.of.Goals as goal

pub returns-clause-few : goal.returns-clause-few
returns-clause-few g c =
    let plan : Plan = c.of-2.result.value in
    let few : length (course (g.P.Program.verdict_after c.of.result.value) plan c.args.core) ≤ frame_count plan =
    few_verdicts (g.P.Program.verdict_after c.of.result.value) plan c.args.core in
    let ranges : IsPlan plan = subst IsPlan (sym c.of-2.ensures) c.rows-rows.ensures.ranges in
    let within : length (course (g.P.Program.verdict_after c.of.result.value) plan c.args.core) < 2 ^ 63 = omega arith in
    within

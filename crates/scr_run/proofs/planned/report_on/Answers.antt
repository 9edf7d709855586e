use Rattle.std.proofs.Common.{length, ap, arith}
use Rattle.scr_replica.specs.Answers.{Answer}
use Rattle.scr_run.proofs.Counts.{few-delivered}
use Rattle.scr_run.proofs.planned.report_on.Goals as goal

pub overflow_cast-counts-2 : goal.overflow_cast-counts-2
overflow_cast-counts-2 g c =
    omega (arith, c.len.ensures, ap (λ (a : Answer). length a.verdicts) c.gathered.view_is, c.requires.delivered, few-delivered c.args.plan.now c.rows.ensures.ranges)

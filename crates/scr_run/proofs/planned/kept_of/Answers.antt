use Rattle.std.proofs.Common.{length, ap, arith}
use Rattle.scr_run.proofs.Counts.{first-core}
use Rattle.scr_run.proofs.planned.kept_of.Goals as goal

pub overflow_sub-result : goal.overflow_sub-result
overflow_sub-result c =
    omega (arith, ap length c.rows.ensures.rows, first-core c.args.plan.now c.rows.ensures.ranges c.args.cores.now c.requires.cores (record { delivered = 0; carried = 0; recovered = 0; skipped = 0 }))

pub returns : goal.returns
returns c =
    omega (arith, ap length c.rows.ensures.rows, first-core c.args.plan.now c.rows.ensures.ranges c.args.cores.now c.requires.cores (record { delivered = 0; carried = 0; recovered = 0; skipped = 0 }))

use Rattle.std.proofs.Common.{get_or, arith}
use Rattle.std.specs.List.{enumerate_from}
use Rattle.std.proofs.lemmas.List.FromFn.{length-enumerate_from}
use Rattle.std.proofs.lemmas.Result.{err_from_is_err_and}
use Rattle.scr_plan.specs.declared.counting.CoreCounts.{CoreCounts}
use Rattle.scr_report.specs.Text.{core_line}
use Rattle.scr_report.proofs.Written.{line-more, line-fails, lines-all, enumerated}
use Rattle.scr_report.proofs.writing.put_cores.Goals as goal

pub returns-in_err-put_core-clause-text : goal.returns-in_err-put_core-clause-text
returns-in_err-put_core-clause-text g c =
    let failed = err_from_is_err_and c.from_residual.result c.from_residual.ensures.1 in
    let none : CoreCounts = record { delivered = 0; carried = 0; recovered = 0; skipped = 0 } in
    rw failed.1 (line-fails core_line (enumerate_from 0 c.args.cores.now) c.loop-core.core (0, none) (c.loop-core.core, get_or c.args.cores.now c.loop-core.core none) _ _ _ _ _
    (omega (arith, length-enumerate_from 0 c.args.cores.now, c.loop-core-test.true)) (enumerated c.args.cores.now c.loop-core.core none c.loop-core-test.true)
    c.loop-core.invariant.passed c.in_err-put_core.ensures.text)

pub loop-core-preserved : goal.loop-core-preserved
loop-core-preserved g c =
    let none : CoreCounts = record { delivered = 0; carried = 0; recovered = 0; skipped = 0 } in
    record {
      passed = line-more core_line (enumerate_from 0 c.args.cores.now) c.loop-core.core (0, none) (c.loop-core.core, get_or c.args.cores.now c.loop-core.core none) _ _ _ _ _ _
          (omega (arith, length-enumerate_from 0 c.args.cores.now, c.loop-core-test.true)) (enumerated c.args.cores.now c.loop-core.core none c.loop-core-test.true)
          c.loop-core.invariant.passed c.in_ok-put_core.ensures.text;
      faults = grind arith;
      wants = grind arith;
    }

pub returns-clause-text : goal.returns-clause-text
returns-clause-text g c =
    lines-all core_line (enumerate_from 0 c.args.cores.now) _ _ _ _ _ (omega (arith, length-enumerate_from 0 c.args.cores.now, c.loop-core-test.false)) c.loop-core.invariant.passed

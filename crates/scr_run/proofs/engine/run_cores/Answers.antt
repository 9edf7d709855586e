use Rattle.std.proofs.Common.{ap, ◌∙◌}
use Rattle.std.proofs.lemmas.Result.{err_from_is_err_and}
use Rattle.scr_plan.specs.Plan.{Plan}
use Rattle.scr_run.specs.Rules.{Rules, ruled_by}
use Rattle.scr_run.specs.RunReport.{rows_of, plan_text, shaped_text}
use Rattle.scr_run.specs.Ends.{ended}
use Rattle.scr_run.proofs.Ending.{Ends-behind, Ends-stopped}
use Rattle.scr_run.proofs.Written.{plan-of, IsOfCapture-from}
use Rattle.scr_run.proofs.engine.run_cores.Goals as goal

pub returns-in_err-rows : goal.returns-in_err-rows
returns-in_err-rows g c =
    let failed = err_from_is_err_and c.from_residual.result c.from_residual.ensures.1 in
    record {
      ends = rw failed.1 (rw failed.2 (Ends-stopped _ (g.S.Source.left c.args.capture.now) _ _ g.O.Sink.written g.O.Sink.faults g.O.Sink.wants c.args.out.now _ _ _ tt
          c.in_err-rows.ensures.stop));
    }

pub returns : goal.returns
returns g c =
    let settings = c.args.settings.now in
    let shape = c.args.shape in
    let row_of = g.P.Program.row_of settings in
    let rules : Rules = ruled_by row_of (g.P.Program.verdict_after settings) (g.P.Program.count_after settings) g.P.Program.verdict_names in
    let plan = c.make-plan.result in
    let rows = c.in_ok-rows.ensures.rows in
    let shaped = plan-of plan (rows_of row_of rows.0) shape.cores shape.history shape.link
    (c.make-plan.ensures.rows ∙ rows.2) c.make-plan.ensures.cores c.make-plan.ensures.history c.make-plan.ensures.link in
    record {
      ends = Ends-behind g.O.Sink.written g.O.Sink.faults g.O.Sink.wants _ _ _ _ _ _ _ _ (ended c.write_plan.result)
          (IsOfCapture-from (shaped_text rules shape c.args.with_verdicts) _ (g.S.Source.left c.args.capture.now) rows.0 rows.1
          (ap (λ (p : Plan). plan_text rules c.args.with_verdicts p) shaped))
          c.in_ok-rows.ensures.end c.in_ok-rows.ensures.calm c.write_plan.ensures.ends;
    }

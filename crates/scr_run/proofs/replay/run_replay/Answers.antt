use Rattle.std.proofs.lemmas.Result.{err_from_is_err_and}
use Rattle.scr_run.specs.Ends.{ended}
use Rattle.scr_run.specs.Rules.{Rules, ruled_by}
use Rattle.scr_run.specs.RunReport.{plan_text}
use Rattle.std.proofs.Common.{true}
use Rattle.scr_run.proofs.Ending.{Ends-behind}
use Rattle.scr_run.proofs.Streams.{Ends-stopped_stream, StopsStream-from, IsOfStream-from}
use Rattle.scr_run.proofs.replay.run_replay.Goals as goal

pub returns-in_err-plan : goal.returns-in_err-plan
returns-in_err-plan g c =
    let failed = err_from_is_err_and c.from_residual.result c.from_residual.ensures.1 in
    record {
      ends = rw failed.1 (Ends-stopped_stream c.args.code _ (g.S.Source.left c.args.stream.now) _ _ g.O.Sink.written g.O.Sink.faults g.O.Sink.wants c.args.out.now _ _ _ tt
          (StopsStream-from c.args.code (g.S.Source.left c.args.stream.now) g.S.Source.faults _ _ _ failed.0 c.in_err-plan.ensures.counts c.in_err-plan.ensures.refused failed.2));
    }

pub returns : goal.returns
returns g c =
    let settings = c.args.settings.now in
    let rules : Rules = ruled_by (g.P.Program.row_of settings) (g.P.Program.verdict_after settings) (g.P.Program.count_after settings) g.P.Program.verdict_names in
    record {
      ends = Ends-behind g.O.Sink.written g.O.Sink.faults g.O.Sink.wants _ _ _ _ _ _ _ _ (ended c.write_plan.result)
          (IsOfStream-from c.args.code (plan_text rules true) (g.S.Source.left c.args.stream.now) _ c.in_ok-plan.ensures.plan)
          c.in_ok-plan.ensures.end (c.in_ok-plan.ensures.counts.other (λ is. cc)) c.write_plan.ensures.ends;
    }

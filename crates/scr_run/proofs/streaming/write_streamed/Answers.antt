use Rattle.std.proofs.Common.{length, ap, ◌∙◌, sym, refl}
use Rattle.std.proofs.lemmas.List.FromFn.{length-map-range_with_len}
use Rattle.std.proofs.lemmas.Result.{err_from_is_err_and}
use Rattle.scr_replica.specs.OneCore.{verdicts}
use Rattle.scr_replica.proofs.Counted.{length-verdicts-delivered}
use Rattle.scr_report.specs.Outcome.{Outcome, total_of}
use Rattle.scr_run.specs.Rules.{Rules, ruled_by}
use Rattle.scr_run.specs.RunReport.{outcome_of}
use Rattle.scr_run.proofs.Leaving.{Ends-among_lines, Ends-behind_lines, counters-alone}
use Rattle.scr_run.proofs.streaming.write_streamed.Goals as goal

pub write_report-requires-clause-a_total_each : goal.write_report-requires-clause-a_total_each
write_report-requires-clause-a_total_each g c =
    let given = verdicts (g.P.Program.verdict_after c.args.settings.now) c.args.plan.now in
    ap (λ (o : Outcome). length o.totals) c.rest_on-report.ensures
    ∙ ap length c.in_ok-streamed.ensures.totals
    ∙ length-map-range_with_len (total_of given) 0 (length g.P.Program.verdict_names)
    ∙ sym (ap length c.in_ok-names.ensures)

pub returns-in_err-streamed : goal.returns-in_err-streamed
returns-in_err-streamed g c =
    let settings = c.args.settings.now in
    let names = g.P.Program.verdict_names in
    let rules : Rules = ruled_by (g.P.Program.row_of settings) (g.P.Program.verdict_after settings) (g.P.Program.count_after settings) names in
    let stopped = err_from_is_err_and c.from_residual-in_err-streamed.result c.from_residual-in_err-streamed.ensures.1 in
    record {
      ends = rw stopped.1 (Ends-among_lines names (outcome_of rules c.args.plan.now) g.O.Sink.written g.O.Sink.faults g.O.Sink.wants c.args.out.now _ _ _ _
          c.in_err-streamed.ensures.text c.in_err-streamed.ensures.cause stopped.2);
    }

pub returns-in_err-write_report : goal.returns-in_err-write_report
returns-in_err-write_report g c =
    let settings = c.args.settings.now in
    let plan = c.args.plan.now in
    let names = g.P.Program.verdict_names in
    let verdict_after = g.P.Program.verdict_after settings in
    let rules : Rules = ruled_by (g.P.Program.row_of settings) verdict_after (g.P.Program.count_after settings) names in
    let found = c.in_ok-streamed.ensures in
    let failed = err_from_is_err_and c.from_residual-in_err-write_report.result c.from_residual-in_err-write_report.ensures.1 in
    let same = counters-alone names (outcome_of rules plan) _ _ _ _ _ c.rest_on-report.ensures
    (found.delivered ∙ length-verdicts-delivered verdict_after plan) found.cores found.flows found.totals in
    record {
      ends = rw failed.1 (Ends-behind_lines names (outcome_of rules plan) g.O.Sink.written g.O.Sink.faults g.O.Sink.wants c.args.out.now _ _ c.rest_on-report.result _ _
          found.text found.cause.ok same (rw c.in_ok-names.ensures at c.in_err-write_report.ensures.text) c.in_err-write_report.ensures.cause failed.2);
    }

pub returns : goal.returns
returns g c =
    let settings = c.args.settings.now in
    let plan = c.args.plan.now in
    let names = g.P.Program.verdict_names in
    let verdict_after = g.P.Program.verdict_after settings in
    let rules : Rules = ruled_by (g.P.Program.row_of settings) verdict_after (g.P.Program.count_after settings) names in
    let found = c.in_ok-streamed.ensures in
    let same = counters-alone names (outcome_of rules plan) _ _ _ _ _ c.rest_on-report.ensures
    (found.delivered ∙ length-verdicts-delivered verdict_after plan) found.cores found.flows found.totals in
    record {
      ends = Ends-behind_lines names (outcome_of rules plan) g.O.Sink.written g.O.Sink.faults g.O.Sink.wants c.args.out.now _ _ c.rest_on-report.result _ _
          found.text found.cause.ok same (rw c.in_ok-names.ensures at c.in_ok-write_report.ensures.text) c.in_ok-write_report.ensures.cause refl;
    }

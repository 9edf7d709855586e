use Rattle.std.proofs.Common.{◌≡◌, ◌<◌, true, List, All, length, ap, ◌∙◌, sym, subst, arith, refl, []}
use Rattle.scr_plan.specs.declared.given.Given.{Given}
use Rattle.std.proofs.lemmas.Result.{err_from_is_err_and}
use Rattle.scr_plan.specs.Plan.{frame_count}
use Rattle.scr_plan.specs.Counts.{delivered_count, kept_count}
use Rattle.scr_replica.specs.OneCore.{undivided}
use Rattle.scr_replica.proofs.Undivided.{length-verdicts, entries-undivided}
use Rattle.scr_replica.proofs.Counted.{delivered_count-all, kept_count-all}
use Rattle.scr_report.specs.Outcome.{Outcome, report_of, report_text, totals_of}
use Rattle.scr_run.specs.Rules.{Rules, ruled_by}
use Rattle.scr_run.specs.RunReport.{rows_of, outcome_of, plain_text}
use Rattle.scr_run.specs.Ends.{ended}
use Rattle.scr_run.proofs.Ending.{Ends-behind, Ends-stopped}
use Rattle.scr_run.proofs.Written.{IsOfCapture-from}
use Rattle.scr_run.proofs.plain.run_whole.Goals as goal

pub write_found-requires-clause-counted : goal.write_found-requires-clause-counted
write_found-requires-clause-counted g c κs within =
    let answer = c.in_ok-core.ensures.answer in
    let found = c.in_ok-report.ensures (rows_of (g.P.Program.row_of c.args.settings.now) answer.0) answer.3 in
    subst (λ (o : Outcome). o.totals ≡ totals_of g.P.Program.verdict_names o.verdicts) (sym found) refl

pub write_found-requires-clause-named : goal.write_found-requires-clause-named
write_found-requires-clause-named g c κs within =
    let answer = c.in_ok-core.ensures.answer in
    let found = c.in_ok-report.ensures (rows_of (g.P.Program.row_of c.args.settings.now) answer.0) answer.3 in
    subst (λ (given : List Given). All (λ given. given.verdict.0 < length g.P.Program.verdict_names) given) (sym (ap (λ (o : Outcome). o.verdicts) found)) c.in_ok-core.ensures.named

pub returns-in_err-core : goal.returns-in_err-core
returns-in_err-core g c =
    let failed = err_from_is_err_and c.from_residual.result c.from_residual.ensures.1 in
    record {
      ends = rw failed.1 (rw failed.2 (Ends-stopped _ (g.S.Source.left c.args.capture.now) _ _ g.O.Sink.written g.O.Sink.faults g.O.Sink.wants c.args.out.now _ _ _ tt
          c.in_err-core.ensures.stop));
    }

pub returns : goal.returns
returns g c =
    let settings = c.args.settings.now in
    let names = g.P.Program.verdict_names in
    let row_of = g.P.Program.row_of settings in
    let verdict_after = g.P.Program.verdict_after settings in
    let count_after = g.P.Program.count_after settings in
    let rules : Rules = ruled_by row_of verdict_after count_after names in
    let core = c.in_ok-core.core in
    let answer = c.in_ok-core.ensures.answer in
    let rows = rows_of row_of answer.0 in
    let plan = undivided rows in
    let found = c.in_ok-report.ensures rows answer.3 in
    let counted : length core.given.items ≡ frame_count plan = omega (arith, ap length answer.2, length-verdicts verdict_after rows) in
    let delivered : length core.given.items ≡ delivered_count plan = counted ∙ sym (delivered_count-all plan refl) in
    let kept : length core.given.items ≡ kept_count plan = counted ∙ sym (kept_count-all plan refl) in
    let outcome : c.in_ok-report.report ≡ record (outcome_of rules plan) { cores = [] } =
    found ∙ (λ i. report_of names (answer.2 i) (counted i) (delivered i) (kept i) [] (sym (entries-undivided count_after rows) i)) in
    let is = ap (λ (o : Outcome). report_text names o true) outcome in
    record {
      ends = Ends-behind g.O.Sink.written g.O.Sink.faults g.O.Sink.wants _ _ _ _ _ _ _ _ (ended c.write_found.result)
          (IsOfCapture-from (plain_text rules) _ (g.S.Source.left c.args.capture.now) answer.0 answer.1 is)
          c.in_ok-core.ensures.end c.in_ok-core.ensures.calm c.write_found.ensures.ends;
    }

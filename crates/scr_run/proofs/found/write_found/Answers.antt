use Rattle.std.proofs.Common.{length, ap, ◌∙◌, sym, refl}
use Rattle.std.proofs.lemmas.List.FromFn.{length-map-range_with_len}
use Rattle.std.proofs.lemmas.Result.{err_from_is_err_and}
use Rattle.scr_report.specs.Outcome.{total_of}
use Rattle.scr_run.proofs.Ending.{Ends-of_write}
use Rattle.scr_run.proofs.found.write_found.Goals as goal

pub write_report-requires-clause-a_total_each : goal.write_report-requires-clause-a_total_each
write_report-requires-clause-a_total_each g c =
    ap length c.requires.counted ∙ length-map-range_with_len (total_of c.args.report.now.verdicts) 0 (length g.P.Program.verdict_names)
    ∙ sym (ap length c.in_ok-names.ensures)

pub returns-in_err-write_report : goal.returns-in_err-write_report
returns-in_err-write_report g c =
    let failed = err_from_is_err_and c.from_residual-in_err-write_report.result c.from_residual-in_err-write_report.ensures.1 in
    record { ends = rw failed.1 (Ends-of_write g.O.Sink.written g.O.Sink.faults g.O.Sink.wants _ _ _ _ (rw c.in_ok-names.ensures at c.in_err-write_report.ensures.text) c.in_err-write_report.ensures.cause failed.0 failed.2) }

pub returns : goal.returns
returns g c =
    record { ends = Ends-of_write g.O.Sink.written g.O.Sink.faults g.O.Sink.wants _ _ _ _ (rw c.in_ok-names.ensures at c.in_ok-write_report.ensures.text) c.in_ok-write_report.ensures.cause _ refl }

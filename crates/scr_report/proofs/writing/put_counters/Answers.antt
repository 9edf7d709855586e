use Rattle.std.proofs.Common.{◌++◌, List, ℕ, map, subst}
use Rattle.std.specs.List.{concat, enumerate_from, zip}
use Rattle.std.proofs.lemmas.Result.{err_from_is_err_and}
use Rattle.scr_base.specs.Streams.{StopsWithin, BatchesText, Passes}
use Rattle.scr_plan.specs.declared.counting.CoreCounts.{CoreCounts}
use Rattle.scr_report.specs.Text.{core_line, total_line}
use Rattle.scr_report.specs.Outcome.{Outcome, counter_lines}
use Rattle.scr_report.proofs.Written.{counters-put, frames-fail, cores-fail, flows-fail}
use Rattle.scr_report.proofs.writing.put_counters.Goals as goal

pub returns-in_err-put_frames-clause-text : goal.returns-in_err-put_frames-clause-text
returns-in_err-put_frames-clause-text g c =
    let failed = err_from_is_err_and c.from_residual.result c.from_residual.ensures.1 in
    let r = c.report.inside in
    let seen : Outcome = record { verdicts = r.verdicts.items; frames = r.frames; delivered = r.delivered; kept = r.kept; cores = r.cores.items; flows = r.flows; totals = r.totals.items } in
    let P : Outcome → Type 0 = λ o. StopsWithin (g.O.Sink.written c.args.out.now) (g.O.Sink.written c.put_frames.new.out) (c.args.batch.now ++ concat (counter_lines c.args.names.now o)) in
    rw failed.1 (subst P c.report.view_is (frames-fail c.args.names.now seen _ _ _ c.in_err-put_frames.ensures.text))

pub returns-in_err-put_cores-clause-text : goal.returns-in_err-put_cores-clause-text
returns-in_err-put_cores-clause-text g c =
    let failed = err_from_is_err_and c.from_residual-in_err-put_cores.result c.from_residual-in_err-put_cores.ensures.1 in
    let r = c.report.inside in
    let seen : Outcome = record { verdicts = r.verdicts.items; frames = r.frames; delivered = r.delivered; kept = r.kept; cores = r.cores.items; flows = r.flows; totals = r.totals.items } in
    let P : Outcome → Type 0 = λ o. StopsWithin (g.O.Sink.written c.args.out.now) (g.O.Sink.written c.put_cores.new.out) (c.args.batch.now ++ concat (counter_lines c.args.names.now o)) in
    let Q : List CoreCounts → Type 0 = λ t. StopsWithin (g.O.Sink.written c.put_frames.new.out) (g.O.Sink.written c.put_cores.new.out) (c.put_frames.new.batch ++ concat (map core_line (enumerate_from 0 t))) in
    rw failed.1 (subst P c.report.view_is (cores-fail c.args.names.now seen _ _ _ _ _ c.in_ok-put_frames.ensures.text (subst Q c.deref.ensures.value c.in_err-put_cores.ensures.text)))

pub returns-in_err-put_flows-clause-text : goal.returns-in_err-put_flows-clause-text
returns-in_err-put_flows-clause-text g c =
    let failed = err_from_is_err_and c.from_residual-in_err-put_flows.result c.from_residual-in_err-put_flows.ensures.1 in
    let r = c.report.inside in
    let seen : Outcome = record { verdicts = r.verdicts.items; frames = r.frames; delivered = r.delivered; kept = r.kept; cores = r.cores.items; flows = r.flows; totals = r.totals.items } in
    let P : Outcome → Type 0 = λ o. StopsWithin (g.O.Sink.written c.args.out.now) (g.O.Sink.written c.put_flows.new.out) (c.args.batch.now ++ concat (counter_lines c.args.names.now o)) in
    let Q : List CoreCounts → Type 0 = λ t. Passes (g.O.Sink.written c.put_frames.new.out) (g.O.Sink.written c.put_cores.new.out) c.put_frames.new.batch c.put_cores.new.batch (concat (map core_line (enumerate_from 0 t))) in
    rw failed.1 (subst P c.report.view_is (flows-fail c.args.names.now seen _ _ _ _ _ _ _ c.in_ok-put_frames.ensures.text (subst Q c.deref.ensures.value c.in_ok-put_cores.ensures.text)
    c.in_err-put_flows.ensures.text))

pub returns-clause-text : goal.returns-clause-text
returns-clause-text g c =
    let r = c.report.inside in
    let seen : Outcome = record { verdicts = r.verdicts.items; frames = r.frames; delivered = r.delivered; kept = r.kept; cores = r.cores.items; flows = r.flows; totals = r.totals.items } in
    let P : Outcome → Type 0 = λ o. BatchesText (g.O.Sink.written c.args.out.now) (g.O.Sink.written c.put_totals.new.out) c.args.batch.now c.put_totals.new.batch c.put_totals.result (concat (counter_lines c.args.names.now o)) in
    let Q : List CoreCounts → Type 0 = λ t. Passes (g.O.Sink.written c.put_frames.new.out) (g.O.Sink.written c.put_cores.new.out) c.put_frames.new.batch c.put_cores.new.batch (concat (map core_line (enumerate_from 0 t))) in
    let R : List ℕ → Type 0 = λ t. BatchesText (g.O.Sink.written c.put_flows.new.out) (g.O.Sink.written c.put_totals.new.out) c.put_flows.new.batch c.put_totals.new.batch c.put_totals.result (concat (map total_line (zip c.args.names.now t))) in
    subst P c.report.view_is (counters-put c.args.names.now seen _ _ _ _ _ _ _ _ _ _ c.put_totals.result c.in_ok-put_frames.ensures.text (subst Q c.deref.ensures.value c.in_ok-put_cores.ensures.text)
    c.in_ok-put_flows.ensures.text (subst R c.deref-2.ensures.value c.put_totals.ensures.text))

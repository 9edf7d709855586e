use Rattle.std.proofs.Common.{◌++◌, ◌<◌, List, ℕ, length, map, subst}
use Rattle.std.specs.List.{concat}
use Rattle.std.proofs.lemmas.Result.{err_from_is_err_and}
use Rattle.std.proofs.lemmas.List.Elements.{All-same}
use Rattle.scr_base.specs.Streams.{StopsWithin, BatchesText}
use Rattle.scr_plan.specs.declared.given.Given.{Given}
use Rattle.scr_report.specs.Text.{verdict_line}
use Rattle.scr_report.specs.Outcome.{counter_lines}
use Rattle.scr_report.proofs.Written.{All-chosen, two-fail, two-put}
use Rattle.scr_report.proofs.writing.put_report.Goals as goal

pub put_verdicts-requires : goal.put_verdicts-requires
put_verdicts-requires g c =
    let P : Given → Type 0 = λ given. given.verdict.0 < length c.args.names.now in
    All-same P c.chosen.result.now _ c.chosen.ensures (All-chosen P c.args.with_verdicts c.args.report.now.verdicts c.requires.named)

pub returns-in_err-put_verdicts-clause-text : goal.returns-in_err-put_verdicts-clause-text
returns-in_err-put_verdicts-clause-text g c =
    let failed = err_from_is_err_and c.from_residual.result c.from_residual.ensures.1 in
    let counters : List (List ℕ) = counter_lines c.args.names.now c.args.report.now in
    let P : List Given → Type 0 = λ t. StopsWithin (g.O.Sink.written c.args.out.now) (g.O.Sink.written c.put_verdicts.new.out) (c.args.batch.now ++ concat (map (verdict_line c.args.names.now) t ++ counters)) in
    rw failed.1 (subst P c.chosen.ensures (two-fail (map (verdict_line c.args.names.now) c.chosen.result.now) counters _ _ _ c.in_err-put_verdicts.ensures.text))

pub returns-clause-text : goal.returns-clause-text
returns-clause-text g c =
    let counters : List (List ℕ) = counter_lines c.args.names.now c.args.report.now in
    let P : List Given → Type 0 = λ t. BatchesText (g.O.Sink.written c.args.out.now) (g.O.Sink.written c.put_counters.new.out) c.args.batch.now c.put_counters.new.batch c.put_counters.result (concat (map (verdict_line c.args.names.now) t ++ counters)) in
    subst P c.chosen.ensures (two-put (map (verdict_line c.args.names.now) c.chosen.result.now) counters _ _ _ _ _ _ c.put_counters.result c.in_ok-put_verdicts.ensures.text c.put_counters.ensures.text)

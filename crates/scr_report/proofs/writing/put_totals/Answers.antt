use Rattle.std.proofs.Common.{◌++◌, ℕ, List, [], get_or, arith, subst}
use Rattle.std.specs.List.{zip}
use Rattle.std.proofs.lemmas.Slice.Zip.{length-zip}
use Rattle.std.proofs.lemmas.Result.{err_from_is_err_and}
use Rattle.scr_base.specs.Streams.{StopsWithin, Passes}
use Rattle.scr_report.specs.Text.{total_line, name_at}
use Rattle.scr_report.proofs.Written.{line-more, line-fails, lines-all, zipped}
use Rattle.scr_report.proofs.writing.put_totals.Goals as goal

pub returns-in_err-put_total-clause-text : goal.returns-in_err-put_total-clause-text
returns-in_err-put_total-clause-text g c =
    let failed = err_from_is_err_and c.from_residual.result c.from_residual.ensures.1 in
    let total : ℕ = get_or c.args.totals.now c.loop-place.place 0 in
    let P : List ℕ → Type 0 = λ t. StopsWithin (g.O.Sink.written c.loop-place.out) (g.O.Sink.written c.put_total.new.out) (c.loop-place.batch ++ total_line (t, total)) in
    rw failed.1 (line-fails total_line (zip c.args.names.now c.args.totals.now) c.loop-place.place ([], 0) (name_at c.args.names.now c.loop-place.place, total) _ _ _ _ _
    (omega (arith, length-zip c.args.names.now c.args.totals.now, c.requires, c.loop-place-test.true)) (zipped c.args.names.now c.args.totals.now c.loop-place.place c.requires c.loop-place-test.true)
    c.loop-place.invariant.passed (subst P c.get.ensures c.in_err-put_total.ensures.text))

pub loop-place-preserved : goal.loop-place-preserved
loop-place-preserved g c =
    let total : ℕ = get_or c.args.totals.now c.loop-place.place 0 in
    let P : List ℕ → Type 0 = λ t. Passes (g.O.Sink.written c.loop-place.out) (g.O.Sink.written c.put_total.new.out) c.loop-place.batch c.put_total.new.batch (total_line (t, total)) in
    record {
      passed = line-more total_line (zip c.args.names.now c.args.totals.now) c.loop-place.place ([], 0) (name_at c.args.names.now c.loop-place.place, total) _ _ _ _ _ _
          (omega (arith, length-zip c.args.names.now c.args.totals.now, c.requires, c.loop-place-test.true)) (zipped c.args.names.now c.args.totals.now c.loop-place.place c.requires c.loop-place-test.true)
          c.loop-place.invariant.passed (subst P c.get.ensures c.in_ok-put_total.ensures.text);
      faults = grind arith;
      wants = grind arith;
    }

pub returns-clause-text : goal.returns-clause-text
returns-clause-text g c =
    lines-all total_line (zip c.args.names.now c.args.totals.now) _ _ _ _ _ (omega (arith, length-zip c.args.names.now c.args.totals.now, c.loop-place-test.false)) c.loop-place.invariant.passed

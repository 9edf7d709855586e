use Rattle.std.proofs.Common.{ℕ, ◌++◌, decimal, subst}
use Rattle.std.proofs.lemmas.Result.{err_from_is_err_and}
use Rattle.scr_base.specs.Streams.{StopsWithin, Passes}
use Rattle.scr_base.proofs.Streams.{StopsWithin-longer, BatchesText-then}
use Rattle.scr_report.proofs.writing.put_numbered.Goals as goal

pub returns-in_err-put_decimal-clause-text : goal.returns-in_err-put_decimal-clause-text
returns-in_err-put_decimal-clause-text g c =
    let failed = err_from_is_err_and c.from_residual.result c.from_residual.ensures.1 in
    let P : ℕ → Type 0 = λ n. StopsWithin (g.O.Sink.written c.args.out.now) (g.O.Sink.written c.put_decimal.new.out) (c.args.batch.now ++ decimal n) in
    rw failed.1 (StopsWithin-longer _ _ c.args.batch.now (decimal c.args.number) c.args.ending.now (subst P c.into.ensures c.in_err-put_decimal.ensures.text))

pub returns-clause-text : goal.returns-clause-text
returns-clause-text g c =
    let P : ℕ → Type 0 = λ n. Passes (g.O.Sink.written c.args.out.now) (g.O.Sink.written c.put_decimal.new.out) c.args.batch.now c.put_decimal.new.self (decimal n) in
    BatchesText-then _ _ _ _ _ _ (decimal c.args.number) c.args.ending.now c.put.result (subst P c.into.ensures c.in_ok-put_decimal.ensures.text) c.put.ensures.text

use Rattle.std.proofs.Common.{◌++◌, ℕ, List, arith, subst}
use Rattle.std.proofs.lemmas.Result.{err_from_is_err_and}
use Rattle.scr_base.specs.Streams.{StopsWithin, Passes}
use Rattle.scr_base.proofs.Pieces.{Passes-more, Passes-fails}
use Rattle.scr_wire.specs.Spelling.{row_bytes}
use Rattle.scr_stream.proofs.put.put_rows.Goals as goal

pub returns-in_err-put-clause-text : goal.returns-in_err-put-clause-text
returns-in_err-put-clause-text g c =
    let failed = err_from_is_err_and c.from_residual.result c.from_residual.ensures.1 in
    let P : List ℕ → Type 0 = λ t. StopsWithin (g.O.Sink.written c.loop-row.out) (g.O.Sink.written c.put.new.out) (c.loop-row.batch ++ t) in
    rw failed.1 (Passes-fails row_bytes c.args.rows.now c.loop-row.row-index _ _ _ _ _ _ c.loop-row-test.true c.loop-row.invariant.passed
    (subst P c.row_bytes.ensures c.in_err-put.ensures.text))

pub loop-row-preserved : goal.loop-row-preserved
loop-row-preserved g c =
    let P : List ℕ → Type 0 = λ t. Passes (g.O.Sink.written c.loop-row.out) (g.O.Sink.written c.put.new.out) c.loop-row.batch c.put.new.self t in
    record {
      passed = Passes-more row_bytes c.args.rows.now c.loop-row.row-index _ _ _ _ _ _ _ c.loop-row-test.true c.loop-row.invariant.passed
          (subst P c.row_bytes.ensures c.in_ok-put.ensures.text);
      faults = grind arith;
      wants = grind arith;
    }

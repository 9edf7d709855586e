use Rattle.std.proofs.Common.{arith}
use Rattle.std.proofs.lemmas.Result.{err_from_is_err_and}
use Rattle.scr_base.specs.Pieces.{text_of}
use Rattle.scr_base.proofs.Counts.{CountsError-behind}
use Rattle.scr_base.proofs.Pieces.{Passes-more, Passes-fails}
use Rattle.scr_base.proofs.batch.Batch.put_pieces.Goals as goal

pub returns-in_err-put_piece-clause-text : goal.returns-in_err-put_piece-clause-text
returns-in_err-put_piece-clause-text g c =
    let failed = err_from_is_err_and c.from_residual.result c.from_residual.ensures.1 in
    rw failed.1 (Passes-fails text_of _ _ _ _ _ _ _ _ c.loop-piece-test.true c.loop-piece.invariant.passed c.in_err-put_piece.ensures.text)

pub loop-piece-preserved : goal.loop-piece-preserved
loop-piece-preserved g c = record {
  passed = Passes-more text_of _ _ _ _ _ _ _ _ _ c.loop-piece-test.true c.loop-piece.invariant.passed c.in_ok-put_piece.ensures.text;
  faults = grind arith;
  wants = grind arith;
}

pub returns-in_err-put_piece-clause-cause : goal.returns-in_err-put_piece-clause-cause
returns-in_err-put_piece-clause-cause g c =
    let failed = err_from_is_err_and c.from_residual.result c.from_residual.ensures.1 in
    rw (failed.1, failed.2) (CountsError-behind g.O.Sink.faults g.O.Sink.wants _ _ _ _ c.loop-piece.invariant.faults c.loop-piece.invariant.wants c.in_err-put_piece.ensures.cause)

pub returns-in_err-put_piece-clause-kept : goal.returns-in_err-put_piece-clause-kept
returns-in_err-put_piece-clause-kept g c =
    let failed = err_from_is_err_and c.from_residual.result c.from_residual.ensures.1 in
    rw failed.1 (record {
      count = c.loop-piece.piece-index;
      between = _;
      kept = _;
      passed = c.loop-piece.invariant.passed;
      then = c.in_err-put_piece.ensures.kept;
    })

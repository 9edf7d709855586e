use Rattle.std.proofs.Common.{◌<◌, arith, ap, length}
use Rattle.std.proofs.lemmas.Result.{err_from_is_err_and}
use Rattle.scr_stream.specs.Streamed.{frame_at}
use Rattle.scr_plan.specs.Plan.{frame_count}
use Rattle.scr_stream.proofs.Putting.{Passes-number, Passes-number_fails}
use Rattle.scr_stream.proofs.put.put_frames.Goals as goal

pub returns-in_err-put_frame_at-clause-text : goal.returns-in_err-put_frame_at-clause-text
returns-in_err-put_frame_at-clause-text g c =
    let failed = err_from_is_err_and c.from_residual.result c.from_residual.ensures.1 in
    let all = ap length c.rows.ensures.rows in
    let below : c.loop-i.i < frame_count c.args.plan.now = omega (arith, c.loop-i-test.true) in
    rw failed.1 (Passes-number_fails (frame_at c.args.plan.now) c.loop-i.i (frame_count c.args.plan.now) _ _ _ _ _ below c.loop-i.invariant.passed c.in_err-put_frame_at.ensures.text)

pub loop-i-preserved : goal.loop-i-preserved
loop-i-preserved g c = record {
  passed = Passes-number (frame_at c.args.plan.now) c.loop-i.i _ _ _ _ _ _ c.loop-i.invariant.passed c.in_ok-put_frame_at.ensures.text;
  faults = grind arith;
  wants = grind arith;
}

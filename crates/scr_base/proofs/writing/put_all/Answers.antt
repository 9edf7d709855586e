use Rattle.std.proofs.Common.{refl, [], arith}
use Rattle.std.proofs.lemmas.Result.{err_from_is_err_and}
use Rattle.scr_base.proofs.Streams.{Appends-none, Passes-sends}
use Rattle.scr_base.proofs.Counts.{CountsError-behind}
use Rattle.scr_base.proofs.writing.put_all.Goals as goal

pub loop-rest-init : goal.loop-rest-init
loop-rest-init g c = record {
  passed = record { sent = []; gained = Appends-none (g.O.Sink.written c.args.out.now); parts = refl };
  faults = refl;
  wants = refl;
}

pub loop-rest-preserved : goal.loop-rest-preserved
loop-rest-preserved g c = record {
  passed = rw c.split_at.ensures.back (Passes-sends _ _ _ _ _ _ _ c.loop-rest.invariant.passed c.in_ok-count.ensures.bytes);
  faults = grind arith;
  wants = grind arith;
}

pub returns-in_err-count-clause-cause : goal.returns-in_err-count-clause-cause
returns-in_err-count-clause-cause g c =
    let failed = err_from_is_err_and c.from_residual.result c.from_residual.ensures.1 in
    rw (failed.1, failed.2) (CountsError-behind g.O.Sink.faults g.O.Sink.wants _ _ _ _ c.loop-rest.invariant.faults c.loop-rest.invariant.wants c.in_err-count.ensures.cause)

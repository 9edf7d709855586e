use Rattle.std.proofs.Common.{[]}
use Rattle.std.proofs.lemmas.Result.{err_from_is_err_and}
use Rattle.scr_base.proofs.Counts.{CountsError-then}
use Rattle.scr_base.proofs.Streams.{WritesText-behind, StopsWithin-longer, HoldsOrWrote-behind}
use Rattle.scr_base.proofs.batch.Batch.put_behind_all.Goals as goal

pub returns-in_err-finish-clause-text : goal.returns-in_err-finish-clause-text
returns-in_err-finish-clause-text g c =
    let failed = err_from_is_err_and c.from_residual.result c.from_residual.ensures.1 in
    rw failed.1 (StopsWithin-longer _ _ [] c.args.self.now c.args.text.now c.in_err-finish.ensures.text)

pub returns-then-text-gt-SIZE-clause-text : goal.returns-then-text-gt-SIZE-clause-text
returns-then-text-gt-SIZE-clause-text g c =
    WritesText-behind _ _ _ _ _ _ c.put_all.result c.in_ok-finish.ensures.text c.in_ok-finish.ensures.empty c.put_all.ensures.text

pub returns-then-text-gt-SIZE-clause-kept : goal.returns-then-text-gt-SIZE-clause-kept
returns-then-text-gt-SIZE-clause-kept g c =
    HoldsOrWrote-behind _ _ _ _ _ _ c.put_all.result c.in_ok-finish.ensures.text c.in_ok-finish.ensures.empty c.put_all.ensures.text

pub returns-then-text-gt-SIZE-clause-cause : goal.returns-then-text-gt-SIZE-clause-cause
returns-then-text-gt-SIZE-clause-cause g c =
    CountsError-then g.O.Sink.faults g.O.Sink.wants _ _ _ c.put_all.result c.in_ok-finish.ensures.cause.ok.0 c.in_ok-finish.ensures.cause.ok.1 c.put_all.ensures.cause

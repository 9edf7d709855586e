use Rattle.std.proofs.Common.{Ok, Err}
use Rattle.scr_pcapng.proofs.OneReading.{same_readings}
use Rattle.scr_run.proofs.Ending.{malformed, complete, capture-asked}
use Rattle.scr_run.proofs.plain.plain_run.Goals as goal

pub returns-clause-malformed : goal.returns-clause-malformed
returns-clause-malformed g c = λ bytes error told reading calm.
    malformed _ _ _ g.O.Sink.written g.O.Sink.faults g.O.Sink.wants _ _ _ _ c.of.result calm error
    (capture-asked _ bytes (g.S.Source.left c.args.capture.now) (Err error) (same_readings bytes) told reading) (rw (← c.of.ensures) at c.run_whole.ensures.ends)

pub returns-clause-complete : goal.returns-clause-complete
returns-clause-complete g c = λ bytes records told reading calm calm_out.
    complete _ _ _ g.O.Sink.written g.O.Sink.faults g.O.Sink.wants _ _ _ _ c.of.result calm records
    (capture-asked _ bytes (g.S.Source.left c.args.capture.now) (Ok records) (same_readings bytes) told reading) calm_out (rw (← c.of.ensures) at c.run_whole.ensures.ends)

use Rattle.std.proofs.Common.{Ok, Err}
use Rattle.scr_pcapng.proofs.OneReading.{same_readings}
use Rattle.scr_run.proofs.Ending.{malformed, complete, status-is, Ends-front}
use Rattle.scr_run.proofs.Main.{asked-refused, asked-load, asked-capture, asked-stream, stream-asked, refused-takes, load-takes}
use Rattle.scr_run.proofs.Streams.{malformed_stream, complete_stream, Ends-asked_stream}
use Rattle.scr_run.proofs.top.scr_main.Goals as goal

pub returns-clause-front : goal.returns-clause-front
returns-clause-front g c = Ends-front _ _ _ g.O.Sink.written g.O.Sink.faults g.O.Sink.wants _ _ _ _ _ c.run.ensures.ends

pub returns-clause-words : goal.returns-clause-words
returns-clause-words g c = λ fault refused.
    status-is _ _ _ g.O.Sink.written g.O.Sink.faults g.O.Sink.wants _ _ _ _ _
    (λ asked. asked-refused c.args.words.now (g.S.Source.left c.args.capture.now) asked fault refused)
    (λ takes same. refused-takes c.args.words.now fault refused takes) (λ done. absurd cc) c.of-status.result (rw (← c.of-status.ensures) at c.run.ensures.ends)

pub returns-clause-malformed : goal.returns-clause-malformed
returns-clause-malformed g c = λ bytes error takes told reading calm.
    malformed _ _ _ g.O.Sink.written g.O.Sink.faults g.O.Sink.wants _ _ _ _ c.of-status.result calm error
    (λ asked. asked-capture c.args.words.now (g.S.Source.left c.args.capture.now) asked bytes (Err error) (same_readings bytes) takes told reading)
    (rw (← c.of-status.ensures) at c.run.ensures.ends)

pub returns-clause-complete : goal.returns-clause-complete
returns-clause-complete g c = λ bytes records takes told reading calm calm_out.
    complete _ _ _ g.O.Sink.written g.O.Sink.faults g.O.Sink.wants _ _ _ _ c.of-status.result calm records
    (λ asked. asked-capture c.args.words.now (g.S.Source.left c.args.capture.now) asked bytes (Ok records) (same_readings bytes) takes told reading)
    calm_out (rw (← c.of-status.ensures) at c.run.ensures.ends)

pub returns-clause-complete_load : goal.returns-clause-complete_load
returns-clause-complete_load g c = λ settings accepted makes calm_out.
    status-is _ _ _ g.O.Sink.written g.O.Sink.faults g.O.Sink.wants _ _ _ _ _
    (λ asked. asked-load c.args.words.now (g.S.Source.left c.args.capture.now) asked settings accepted makes)
    (λ takes same. load-takes c.args.words.now settings accepted makes takes) (λ done. calm_out) c.of-status.result (rw (← c.of-status.ensures) at c.run.ensures.ends)

pub returns-clause-malformed_stream : goal.returns-clause-malformed_stream
returns-clause-malformed_stream g c = λ code bytes error takes told reading calm.
    malformed_stream _ _ _ g.O.Sink.written g.O.Sink.faults g.O.Sink.wants _ _ _ _ c.of-status.result calm error
    (λ asked. asked-stream c.args.words.now (g.S.Source.left c.args.capture.now) asked code bytes (Err error) takes told reading)
    (rw (← c.of-status.ensures) at c.run.ensures.ends)

pub returns-clause-complete_stream : goal.returns-clause-complete_stream
returns-clause-complete_stream g c = λ code bytes plan takes told reading calm calm_out.
    complete_stream _ _ _ g.O.Sink.written g.O.Sink.faults g.O.Sink.wants _ _ _ _ c.of-status.result calm plan
    (λ asked. asked-stream c.args.words.now (g.S.Source.left c.args.capture.now) asked code bytes (Ok plan) takes told reading)
    calm_out (rw (← c.of-status.ensures) at c.run.ensures.ends)

pub returns-clause-of_stream : goal.returns-clause-of_stream
returns-clause-of_stream g c = λ error is.
    stream-asked c.args.words.now (g.S.Source.left c.args.capture.now) error
    (Ends-asked_stream _ _ _ g.O.Sink.written g.O.Sink.faults g.O.Sink.wants _ _ _ _ c.of-status.result error is
    (rw (← c.of-status.ensures) at c.run.ensures.ends))

use Rattle.std.proofs.Common.{refl}
use Rattle.scr_pcap.specs.Generated.{generated_records}
use Rattle.scr_run.specs.Rules.{Rules, ruled_by}
use Rattle.scr_run.specs.Ends.{ended}
use Rattle.scr_run.proofs.ByCommand.{EndsBy-run, EndsBy-plain, EndsBy-load, EndsBy-spray, EndsBy-replay}
use Rattle.scr_run.proofs.Codes.{sprays-one, replays-one}
use Rattle.scr_run.proofs.commands.run_command.Goals as goal

pub returns-in-Plain-clause-ends : goal.returns-in-Plain-clause-ends
returns-in-Plain-clause-ends g c =
    let settings = c.args.settings.now in
    let rules : Rules = ruled_by (g.P.Program.row_of settings) (g.P.Program.verdict_after settings) (g.P.Program.count_after settings) g.P.Program.verdict_names in
    let task = c.args.task in
    EndsBy-plain rules task.code task.shape (generated_records task.start task.frames task.hosts) (g.S.Source.left c.args.capture.now) _
    g.O.Sink.written g.O.Sink.faults g.O.Sink.wants _ _ _ _ (ended c.run_whole.result) task.command c.in-Plain.is c.run_whole.ensures.ends

pub returns-in-Run-clause-ends : goal.returns-in-Run-clause-ends
returns-in-Run-clause-ends g c =
    let settings = c.args.settings.now in
    let rules : Rules = ruled_by (g.P.Program.row_of settings) (g.P.Program.verdict_after settings) (g.P.Program.count_after settings) g.P.Program.verdict_names in
    let task = c.args.task in
    EndsBy-run rules task.code task.shape (generated_records task.start task.frames task.hosts) (g.S.Source.left c.args.capture.now) _
    g.O.Sink.written g.O.Sink.faults g.O.Sink.wants _ _ _ _ (ended c.run_cores.result) task.command c.in-Run.is c.run_cores.ensures.ends

pub returns-in-Load-clause-ends : goal.returns-in-Load-clause-ends
returns-in-Load-clause-ends g c =
    let settings = c.args.settings.now in
    let rules : Rules = ruled_by (g.P.Program.row_of settings) (g.P.Program.verdict_after settings) (g.P.Program.count_after settings) g.P.Program.verdict_names in
    let task = c.args.task in
    EndsBy-load rules task.code task.shape (generated_records task.start task.frames task.hosts) (g.S.Source.left c.args.capture.now) _
    g.O.Sink.written g.O.Sink.faults g.O.Sink.wants _ _ _ _ (ended c.run_load.result) task.command c.in-Load.is refl c.run_load.ensures.ends

pub returns-in-Spray-clause-ends : goal.returns-in-Spray-clause-ends
returns-in-Spray-clause-ends g c =
    let settings = c.args.settings.now in
    let rules : Rules = ruled_by (g.P.Program.row_of settings) (g.P.Program.verdict_after settings) (g.P.Program.count_after settings) g.P.Program.verdict_names in
    let task = c.args.task in
    EndsBy-spray rules task.code task.shape (generated_records task.start task.frames task.hosts) (g.S.Source.left c.args.capture.now) _
    g.O.Sink.written g.O.Sink.faults g.O.Sink.wants _ _ _ _ (ended c.run_spray.result) task.command _ c.in-Spray.is c.code_in-code.ensures.some c.run_spray.ensures.ends

pub returns-in-Replay-clause-ends : goal.returns-in-Replay-clause-ends
returns-in-Replay-clause-ends g c =
    let settings = c.args.settings.now in
    let rules : Rules = ruled_by (g.P.Program.row_of settings) (g.P.Program.verdict_after settings) (g.P.Program.count_after settings) g.P.Program.verdict_names in
    let task = c.args.task in
    EndsBy-replay rules task.code task.shape (generated_records task.start task.frames task.hosts) (g.S.Source.left c.args.capture.now) _
    g.O.Sink.written g.O.Sink.faults g.O.Sink.wants _ _ _ _ (ended c.run_replay.result) task.command _ c.in-Replay.is c.code_in-code-in-Replay.ensures.some c.run_replay.ensures.ends

pub code_in-code-requires : goal.code_in-code-requires
code_in-code-requires g c = sprays-one c.args.task.command c.args.task.code c.args.task.has_code c.in-Spray.is

pub code_in-code-requires-in-Replay : goal.code_in-code-requires-in-Replay
code_in-code-requires-in-Replay g c = replays-one c.args.task.command c.args.task.code c.args.task.has_code c.in-Replay.is

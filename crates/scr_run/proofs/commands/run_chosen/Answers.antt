use Rattle.std.proofs.Common.{ap}
use Rattle.scr_words.specs.declared.settings.ProgramSettings.{ProgramSettings}
use Rattle.scr_run.specs.Ends.{ended}
use Rattle.scr_run.specs.Rules.{rules_of}
use Rattle.scr_run.proofs.ByCommand.{Ends-by_settings}
use Rattle.scr_run.proofs.commands.run_chosen.Goals as goal

pub returns-in-One-clause-ends : goal.returns-in-One-clause-ends
returns-in-One-clause-ends g c =
    Ends-by_settings c.args.chosen _ _ (g.S.Source.left c.args.capture.now) _ _ g.O.Sink.written g.O.Sink.faults g.O.Sink.wants _ _ _ _ (ended c.run_first.result)
    (ap (λ (p : ProgramSettings). rules_of p) c.in-One.is) c.stream_code-code.ensures c.run_first.ensures.ends

pub returns-in-Chain-clause-ends : goal.returns-in-Chain-clause-ends
returns-in-Chain-clause-ends g c =
    Ends-by_settings c.args.chosen _ _ (g.S.Source.left c.args.capture.now) _ _ g.O.Sink.written g.O.Sink.faults g.O.Sink.wants _ _ _ _ (ended c.run_first-in-Chain.result)
    (ap (λ (p : ProgramSettings). rules_of p) c.in-Chain.is) c.stream_code-code.ensures c.run_first-in-Chain.ensures.ends

pub returns-in-Table-clause-ends : goal.returns-in-Table-clause-ends
returns-in-Table-clause-ends g c =
    Ends-by_settings c.args.chosen _ _ (g.S.Source.left c.args.capture.now) _ _ g.O.Sink.written g.O.Sink.faults g.O.Sink.wants _ _ _ _ (ended c.run_command.result)
    (ap (λ (p : ProgramSettings). rules_of p) c.in-Table.is) c.stream_code-code.ensures c.run_command.ensures.ends

use Rattle.scr_run.proofs.Codes.{no-code, few-code}
use Rattle.scr_run.proofs.commands.code_in.Goals as goal

pub unreachable-requires : goal.unreachable-requires
unreachable-requires c = no-code c.args.task.now.code c.requires c.in-None.is

pub returns-clause-few : goal.returns-clause-few
returns-clause-few c = few-code c.args.task.now.code c.in-Some.code c.requires c.in-Some.is

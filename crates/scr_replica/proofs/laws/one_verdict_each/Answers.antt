use Rattle.scr_replica.proofs.Numbers.{verdict-numbers}
use Rattle.scr_replica.proofs.laws.one_verdict_each.Goals as goal

pub returns : goal.returns
returns c verdict_after plan = verdict-numbers verdict_after plan

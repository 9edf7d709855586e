use Rattle.scr_replica.proofs.Saying.{hears-nothing}
use Rattle.scr_replica.proofs.heard.Heard.nothing.Goals as goal

pub returns : goal.returns
returns c = hears-nothing

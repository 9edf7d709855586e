use Rattle.scr_wire.proofs.MessagesRead.{one_message}
use Rattle.scr_wire.proofs.laws.one_message.Goals as goal

pub returns : goal.returns
returns c = one_message

use Rattle.std.proofs.Common.{ap}
use Rattle.scr_wire.proofs.MessagesRead.{one_message_in}
use Rattle.scr_stream.specs.Tests.{header_refusal}
use Rattle.scr_stream.proofs.entry.Place.test_message.Goals as goal

pub returns-in-Ok-clause-answer : goal.returns-in-Ok-clause-answer
returns-in-Ok-clause-answer c = ap header_refusal (one_message_in _ _ c.in-Ok.ensures.shown).0

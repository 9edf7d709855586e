use Rattle.std.proofs.Common.{arith}
use Rattle.scr_wire.proofs.MessagesRead.{is_shown, is_spelled}
use Rattle.scr_wire.proofs.view.decode.Goals as goal

pub returns-clause-shown : goal.returns-clause-shown
returns-clause-shown c = is_shown c.read.result c.args.bytes.now (λ i. omega (arith, c.type_inv.bytes i)) c.read.ensures.passed c.read.ensures.shown

pub returns-clause-spelled : goal.returns-clause-spelled
returns-clause-spelled c = is_spelled c.read.result c.args.bytes.now c.read.ensures.shown c.read.ensures.refused

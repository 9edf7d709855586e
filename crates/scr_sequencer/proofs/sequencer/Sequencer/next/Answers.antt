use Rattle.scr_sequencer.proofs.Adding.{next_adds}
use Rattle.scr_sequencer.proofs.sequencer.Sequencer.next.Goals as goal

pub returns-clause-lanes : goal.returns-clause-lanes
returns-clause-lanes c =
    λ plan follows next. next_adds c.args.self.now c.take.new.self c.args.row c.args.fate c.take.result c.take.ensures.answer c.take.ensures.ok plan follows next

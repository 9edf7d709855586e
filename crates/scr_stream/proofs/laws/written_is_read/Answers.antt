use Rattle.scr_stream.proofs.WrittenRead.{reads-back}
use Rattle.scr_stream.proofs.laws.written_is_read.Goals as goal

pub returns : goal.returns
returns c = λ program plan is fits. reads-back plan is program fits

use Rattle.scr_words.proofs.FaultlessWords.{HaveFaultlessValues-from}
use Rattle.scr_words.proofs.reading.read_words.Goals as goal

pub settings-requires : goal.settings-requires
settings-requires c = record { values = HaveFaultlessValues-from c.in-Some-named.command c.in-Some.operands.now c.in_ok-test_operands.ensures.ok }

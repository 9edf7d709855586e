use Rattle.scr_words.specs.declared.word_fault.WordCause.TheVariants.{Delay}
use Rattle.scr_words.proofs.TextFaults.{delays-none, delays-refused}
use Rattle.scr_words.proofs.texts.test_delays.Goals.{in-Ok, in-Err-Refused, in-Err-OutOfMemory}
use Rattle.scr_words.proofs.texts.test_delays.Goals as goal

pub returns : goal.returns
returns c =
    elim c.match-read.branch [
      | in-Ok w ↦ rw w.result-is (delays-none Delay c.args.text.now w.in-Ok.field-0 w.in-Ok.ensures)
      | in-Err-Refused w ↦ (
          let refused = rw w.in-Err-Refused.field-0-is at w.in-Err-Refused.ensures in
          rw (w.result-is, w.refused.ensures) (delays-refused Delay c.args.text.now _ _ refused))
      | in-Err-OutOfMemory w ↦ rw w.result-is tt
    ]

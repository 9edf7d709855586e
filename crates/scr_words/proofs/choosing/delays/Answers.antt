use Rattle.scr_words.specs.declared.word_fault.WordCause.TheVariants.{Delay}
use Rattle.scr_words.proofs.TextFaults.{delays-none, delays-refused}
use Rattle.scr_words.proofs.choosing.delays.Goals as goal

pub unreachable-requires : goal.unreachable-requires
unreachable-requires c =
    let refused = rw c.in-Err-Refused.field-0-is at c.in-Err-Refused.ensures in
    let passes = delays-none Delay c.args.text.now c.requires.0 c.requires.1 in
    let fault = delays-refused Delay c.args.text.now c.in-Err-Refused.field-0-0 c.in-Err-Refused.field-0-1 refused in
    absurd (cc (passes, fault))

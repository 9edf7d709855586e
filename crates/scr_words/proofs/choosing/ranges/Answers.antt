use Rattle.scr_plan.proofs.OneReading.{SpellsRanges-not_refused}
use Rattle.scr_words.proofs.choosing.ranges.Goals as goal

pub unreachable-requires : goal.unreachable-requires
unreachable-requires c =
    let refused = rw c.in-Err-Refused.field-0-is at c.in-Err-Refused.ensures in
    SpellsRanges-not_refused c.args.text.now c.requires.0 c.in-Err-Refused.field-0-0 c.in-Err-Refused.field-0-1 c.requires.1 refused

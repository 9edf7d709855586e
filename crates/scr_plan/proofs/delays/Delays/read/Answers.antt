use Rattle.scr_plan.proofs.DelaysSpelled.{IsDelayList-from_SpellsRanges}
use Rattle.scr_plan.proofs.delays.Delays.read.Goals as goal

pub invariant_of-result : goal.invariant_of-result
invariant_of-result c = IsDelayList-from_SpellsRanges c.args.text.now c.in_ok-delays.delays.items c.in_ok-delays.ensures

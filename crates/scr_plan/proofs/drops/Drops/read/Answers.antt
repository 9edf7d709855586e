use Rattle.scr_plan.proofs.Spelled.{IsDropList-from_SpellsRanges}
use Rattle.scr_plan.proofs.drops.Drops.read.Goals as goal

pub invariant_of-result : goal.invariant_of-result
invariant_of-result c = IsDropList-from_SpellsRanges c.args.text.now c.in_ok-ranges.ranges.items c.in_ok-ranges.ensures

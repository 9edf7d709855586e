use Rattle.scr_words.proofs.ChosenSettings.{drops_some, repeats_some, delays_some}
use Rattle.scr_words.proofs.choosing.link.Goals as goal

pub ranges-requires : goal.ranges-requires
ranges-requires c = rw c.value.ensures (drops_some c.args.tested.command c.args.tested.operands.now c.requires.values)

pub ranges-requires-2 : goal.ranges-requires-2
ranges-requires-2 c = rw c.value-2.ensures (repeats_some c.args.tested.command c.args.tested.operands.now c.requires.values)

pub delays-requires : goal.delays-requires
delays-requires c = rw c.value-3.ensures (delays_some c.args.tested.command c.args.tested.operands.now c.requires.values)

use Rattle.scr_tables.proofs.Special.{AreRead}
use Rattle.scr_tables.proofs.index.rules_of.Given as goal

abbrev pub invariant-loop-rule : goal.invariant-loop-rule
invariant-loop-rule l = AreRead l.rules l.state l.rule-index l.special.items

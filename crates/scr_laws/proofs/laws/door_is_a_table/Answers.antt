use Rattle.scr_laws.proofs.DoorTable.{verdicts-agree, counts-agree}
use Rattle.scr_laws.proofs.DoorText.{text-spells}
use Rattle.scr_laws.proofs.laws.door_is_a_table.Goals as goal

pub returns-clause-verdicts : goal.returns-clause-verdicts
returns-clause-verdicts c = λ table door rows row is before looked. verdicts-agree table door is rows row before looked

pub returns-clause-flows : goal.returns-clause-flows
returns-clause-flows c = λ table door rows is before. counts-agree table door is rows before

pub returns-clause-text : goal.returns-clause-text
returns-clause-text c = text-spells

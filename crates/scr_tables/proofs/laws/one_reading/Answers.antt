use Rattle.scr_tables.proofs.OneReading.{SpellsTable-same, IsRefused-same, SpellsTable-not_refused}
use Rattle.scr_tables.proofs.laws.one_reading.Goals as goal

pub returns-clause-spelled : goal.returns-clause-spelled
returns-clause-spelled c = SpellsTable-same

pub returns-clause-refused : goal.returns-clause-refused
returns-clause-refused c = IsRefused-same

pub returns-clause-not_both : goal.returns-clause-not_both
returns-clause-not_both c = SpellsTable-not_refused

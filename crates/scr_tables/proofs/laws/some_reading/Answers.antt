use Rattle.scr_tables.proofs.SomeReading.{some_reading}
use Rattle.scr_tables.proofs.laws.some_reading.Goals as goal

pub returns : goal.returns
returns c = some_reading

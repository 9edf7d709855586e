use Rattle.scr_pcapng.proofs.SomeReading.{some_reading}
use Rattle.scr_pcapng.proofs.laws.some_reading.Goals as goal

pub returns : goal.returns
returns c = some_reading

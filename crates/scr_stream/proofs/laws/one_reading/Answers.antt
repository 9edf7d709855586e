use Rattle.scr_stream.proofs.OneReading.{same-readings}
use Rattle.scr_stream.proofs.laws.one_reading.Goals as goal

pub returns : goal.returns
returns c = same-readings

use Rattle.scr_pcapng.proofs.OneReading.{same_readings}
use Rattle.scr_pcapng.proofs.laws.one_reading.Goals as goal

pub returns : goal.returns
returns c = same_readings

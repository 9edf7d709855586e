use Rattle.scr_pcap.proofs.OneReading.{same_readings}
use Rattle.scr_pcap.proofs.laws.one_reading.Goals as goal

pub returns : goal.returns
returns c = same_readings

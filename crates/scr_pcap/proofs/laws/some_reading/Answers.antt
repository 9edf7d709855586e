use Rattle.scr_pcap.proofs.SomeReading.{some_reading}
use Rattle.scr_pcap.proofs.laws.some_reading.Goals as goal

pub returns : goal.returns
returns c = some_reading

use Rattle.scr_stream.proofs.SomeReading.{some-reading}
use Rattle.scr_stream.proofs.laws.some_reading.Goals as goal

pub returns : goal.returns
returns c = some-reading

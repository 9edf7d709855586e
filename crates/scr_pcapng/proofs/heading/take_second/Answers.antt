use Rattle.std.proofs.Common.{arith}
use Rattle.scr_pcapng.specs.Reading.{SECTION}
use Rattle.scr_pcapng.proofs.Taken.{fewer-ahead}
use Rattle.scr_pcapng.proofs.heading.take_second.Goals as goal

pub returns-clause-fewer : goal.returns-clause-fewer
returns-clause-fewer g c = fewer-ahead _ SECTION _ 8 _ _ c.fill_on.ensures.fewer (omega arith)

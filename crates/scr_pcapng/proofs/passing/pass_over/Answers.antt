use Rattle.scr_pcapng.proofs.Taken.{TakesBytes-none}
use Rattle.scr_pcapng.proofs.passing.pass_over.Goals as goal

pub returns-then-size-eq0-clause-taken : goal.returns-then-size-eq0-clause-taken
returns-then-size-eq0-clause-taken g c = TakesBytes-none _ _ c.if-size-eq0.true

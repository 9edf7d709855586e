use Rattle.std.proofs.Common.{rules}
use Rattle.scr_crew.proofs.TakenOnce.{first-of}
use Rattle.scr_crew.proofs.arrivals.first.Goals as goal

pub returns-clause-some : goal.returns-clause-some
returns-clause-some g c = first-of _ _ _ _ (search rules) c.pop.ensures.next c.pop.ensures.taken

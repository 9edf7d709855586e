use Rattle.scr_replica.proofs.Saying.{entry-is}
use Rattle.scr_replica.proofs.heard.Heard.entry.Goals as goal

pub returns-in-Some : goal.returns-in-Some
returns-in-Some c = λ plan core m is_plan heard above to.
    entry-is plan core m is_plan c.args.self.now.packet c.in-Some.packet c.args.p c.row_in.result c.in-Some.is heard.last above to c.row_in.ensures

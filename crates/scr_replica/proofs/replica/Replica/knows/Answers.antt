use Rattle.std.proofs.Common.{◌≡◌, sym, ap, subst, ◌∙◌}
use Rattle.scr_plan.specs.Kept.{carries_to}
use Rattle.scr_replica.specs.Replicas.{Replica, at_hand}
use Rattle.scr_replica.specs.Stages.{replica_of}
use Rattle.scr_replica.proofs.AtHand.{knows-here}
use Rattle.scr_replica.proofs.replica.Replica.knows.Goals as goal

pub returns : goal.returns
returns g c =
    let me = c.self.inside in
    let it : Replica _ = replica_of me.lane me.pass me.state me.counts me.asked me.standing in
    let was = c.self.invariant in
    let hand = subst (λ (r : Replica _). r.pass.published ≡ at_hand r) (sym c.self.view_is) c.requires in
    c.is_some.ensures ∙ knows-here it me.heard me.row me.finished me.cores me.history was hand
    ∙ ap (λ (r : Replica _). carries_to r.pass.logs.plan r.pass.core (at_hand r)) c.self.view_is

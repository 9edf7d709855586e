use Rattle.std.proofs.Common.{◌≡◌, ◌+◌, Bool, ◌&&◌, eqb, sym, ap, subst, ◌∙◌}
use Rattle.scr_plan.specs.Delivered.{delivers_to}
use Rattle.scr_replica.specs.Replicas.{Replica, at_hand}
use Rattle.scr_replica.specs.Stages.{replica_of}
use Rattle.scr_replica.proofs.AtHand.{own-here}
use Rattle.scr_replica.proofs.replica.Replica.is_own.Goals as goal

pub returns-then-is_some : goal.returns-then-is_some
returns-then-is_some g c =
    let me = c.self.inside in
    let it : Replica _ = replica_of me.lane me.pass me.state me.counts me.asked me.standing in
    let was = c.self.invariant in
    let hand = subst (λ (r : Replica _). r.pass.published ≡ at_hand r) (sym c.self.view_is) c.requires in
    ap (eqb (me.finished + 1)) c.decided.ensures
    ∙ ap (λ (b : Bool). b && eqb (me.finished + 1) me.heard.decided) (sym (sym c.is_some.ensures ∙ c.if-is_some.true))
    ∙ own-here it me.heard me.row me.finished me.cores me.history was hand
    ∙ ap (λ (r : Replica _). delivers_to r.pass.logs.plan r.pass.core (at_hand r)) c.self.view_is

pub returns-else-is_some : goal.returns-else-is_some
returns-else-is_some g c =
    let me = c.self.inside in
    let it : Replica _ = replica_of me.lane me.pass me.state me.counts me.asked me.standing in
    let was = c.self.invariant in
    let hand = subst (λ (r : Replica _). r.pass.published ≡ at_hand r) (sym c.self.view_is) c.requires in
    c.if-is_some.false
    ∙ ap (λ (b : Bool). b && eqb (me.finished + 1) me.heard.decided) (sym (sym c.is_some.ensures ∙ c.if-is_some.false))
    ∙ own-here it me.heard me.row me.finished me.cores me.history was hand
    ∙ ap (λ (r : Replica _). delivers_to r.pass.logs.plan r.pass.core (at_hand r)) c.self.view_is

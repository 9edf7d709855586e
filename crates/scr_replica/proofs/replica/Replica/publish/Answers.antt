use Rattle.std.proofs.Common.{◌≡◌, ◌+◌, ◌≤◌, length, sym, ap, subst, ◌∙◌, arith}
use Rattle.scr_wire.specs.Lane.{decided}
use Rattle.scr_log.specs.Passes.{LogsOf, OfCore}
use Rattle.scr_replica.specs.Replicas.{Replica, at_hand}
use Rattle.scr_replica.specs.Stages.{replica_of, Keeps}
use Rattle.scr_replica.proofs.AtHand.{going, few-hand, within-run}
use Rattle.scr_replica.proofs.Keeping.{keeps-looks, keeps-published}
use Rattle.scr_replica.proofs.replica.Replica.publish.Goals as goal

pub overflow_add-p : goal.overflow_add-p
overflow_add-p g c =
    let me = c.self.inside in
    let it : Replica _ = replica_of me.lane me.pass me.state me.counts me.asked me.standing in
    let was = c.self.invariant in
    let few = subst (λ (r : Replica _). at_hand r ≤ decided r.pass.logs.plan r.pass.core r.lane.count) (sym c.self.view_is) c.requires.decided in
    let small = few-hand it (at_hand it) was.replica few in
    let here = was.finished in
    omega arith

pub publish-requires-clause-next : goal.publish-requires-clause-next
publish-requires-clause-next g c =
    let me = c.self.inside in
    let it : Replica _ = replica_of me.lane me.pass me.state me.counts me.asked me.standing in
    let was = c.self.invariant in
    let few = subst (λ (r : Replica _). at_hand r ≤ decided r.pass.logs.plan r.pass.core r.lane.count) (sym c.self.view_is) c.requires.decided in
    let idle = subst (λ (r : Replica _). r.pass.published ≡ r.pass.finished) (sym c.self.view_is) c.requires.idle in
    let these = ap (λ (r : Replica _). r.pass.logs) c.self.view_is ∙ c.requires.of_these in
    let here = was.finished in
    let run = within-run it (at_hand it) few in
    record {
      of_these = these;
      of_the_run = subst (λ (l : LogsOf). me.finished + 1 ≤ length l.plan.rows) these (omega arith);
      published = omega arith;
      finished = omega arith;
    }

pub invariant_of-self : goal.invariant_of-self
invariant_of-self g c =
    let me = c.self.inside in
    let it : Replica _ = replica_of me.lane me.pass me.state me.counts me.asked me.standing in
    let was = c.self.invariant in
    let running = ap (λ (r : Replica _). r.standing) c.self.view_is ∙ c.requires.running in
    let few = subst (λ (r : Replica _). at_hand r ≤ decided r.pass.logs.plan r.pass.core r.lane.count) (sym c.self.view_is) c.requires.decided in
    let idle = subst (λ (r : Replica _). r.pass.published ≡ r.pass.finished) (sym c.self.view_is) c.requires.idle in
    let loaded = c.in-Free.ensures.published in
    let here = was.finished in
    let before = was.earlier in
    subst (λ (p : OfCore). Keeps (replica_of me.lane p me.state me.counts me.asked me.standing) me.heard c.entry-row.result me.finished me.cores me.history) (sym loaded.same)
    (keeps-published it me.heard me.row me.finished me.cores me.history was (going it running) c.publish.new.pass.noted c.publish.new.pass.looks (me.finished + 1)
    c.entry-row.result (omega arith) idle (omega arith)
    (c.entry-row.ensures me.pass.logs.plan me.pass.core me.lane.count was.replica.is_logs.plan was.heard (omega arith) (omega arith)))

pub invariant_of-self-in-NoRoom : goal.invariant_of-self-in-NoRoom
invariant_of-self-in-NoRoom g c =
    let me = c.self.inside in
    let it : Replica _ = replica_of me.lane me.pass me.state me.counts me.asked me.standing in
    let was = c.self.invariant in
    let running = ap (λ (r : Replica _). r.standing) c.self.view_is ∙ c.requires.running in
    let loaded = c.in-NoRoom.ensures.published in
    subst (λ (p : OfCore). Keeps (replica_of me.lane p me.state me.counts me.asked me.standing) me.heard me.row me.finished me.cores me.history) (sym loaded.same)
    (keeps-looks it me.heard me.row me.finished me.cores me.history was me.lane.looks c.publish.new.pass.noted c.publish.new.pass.looks me.standing (going it running))

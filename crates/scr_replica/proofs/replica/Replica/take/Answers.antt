use Rattle.std.proofs.Common.{◌≡◌, sym, ap, subst, ◌∙◌}
use Rattle.scr_wire.specs.Lane.{decided}
use Rattle.scr_lane.specs.Messages.{Route, SpellsMessage}
use Rattle.scr_lane.specs.Ends.{End, moved}
use Rattle.scr_replica.specs.Replicas.{Replica}
use Rattle.scr_replica.specs.Stages.{replica_of, Keeps}
use Rattle.scr_replica.proofs.Looking.{looked-lane}
use Rattle.scr_replica.proofs.AtHand.{going}
use Rattle.scr_replica.proofs.Keeping.{through-all, keeps-ended, keeps-taken}
use Rattle.scr_replica.proofs.replica.Replica.take.Goals as goal

pub invariant_of-self : goal.invariant_of-self
invariant_of-self g c =
    let me = c.self.inside in
    let it : Replica _ = replica_of me.lane me.pass me.state me.counts me.asked me.standing in
    let was = c.self.invariant in
    let all = subst (λ (r : Replica _). r.pass.finished ≡ decided r.pass.logs.plan r.pass.core r.lane.count) (sym c.self.view_is) c.requires.through in
    keeps-ended it me.heard me.row me.finished me.cores me.history was
    (through-all it me.heard me.row me.finished me.cores me.history was (sym c.is_whole.ensures ∙ c.if-is_whole.true) all)

pub take-requires : goal.take-requires
take-requires g c = let fits = c.pop-packet.ensures.item in (fits.message, fits.spells)

pub invariant_of-self-2 : goal.invariant_of-self-2
invariant_of-self-2 g c =
    let me = c.self.inside in
    let it : Replica _ = replica_of me.lane me.pass me.state me.counts me.asked me.standing in
    let was = c.self.invariant in
    let running = ap (λ (r : Replica _). r.standing) c.self.view_is ∙ c.requires.running in
    let all = subst (λ (r : Replica _). r.pass.finished ≡ decided r.pass.logs.plan r.pass.core r.lane.count) (sym c.self.view_is) c.requires.through in
    let seen : End Route = c.has_item.new.self in
    let looks = looked-lane me.lane seen c.has_item.ensures.same in
    let lane_is = c.pop-packet.ensures.count ∙ ap (λ (e : End Route). moved e) looks in
    let fits = subst (λ (e : End Route). SpellsMessage e.about e.count c.pop-packet.result) looks c.pop-packet.ensures.item in
    let shown = subst (λ (r : Route). SpellsMessage r me.lane.count c.pop-packet.result) was.replica.its_lane fits in
    subst (λ (e : End Route). Keeps (replica_of e me.pass me.state me.counts me.asked me.standing) c.take.new.self me.row me.finished me.cores me.history) (sym lane_is)
    (keeps-taken it me.heard me.row me.finished me.cores me.history was (going it running) seen.looks c.take.new.self all
    (was.heard.not_whole (sym c.is_whole.ensures ∙ c.if-is_whole.false))
    (c.take.ensures me.pass.logs.plan me.pass.core me.lane.count was.replica.is_logs.plan (sym was.history) shown was.heard))

use Rattle.std.proofs.Common.{◌≡◌, sym, ap, ◌∙◌, arith}
use Rattle.scr_replica.specs.OneCore.{kept_row}
use Rattle.scr_replica.specs.Replicas.{Replica, at_hand}
use Rattle.scr_replica.specs.Stages.{replica_of}
use Rattle.scr_replica.proofs.Packets.{known-kept}
use Rattle.scr_replica.proofs.Looking.{looked-not}
use Rattle.scr_replica.proofs.AtHand.{hand-in-run}
use Rattle.scr_replica.proofs.replica.Replica.go_on.Goals as goal

pub finish-requires-clause-kept : goal.finish-requires-clause-kept
finish-requires-clause-kept g c κs within =
    let me = c.self.inside in
    let it : Replica _ = replica_of me.lane me.pass me.state me.counts me.asked me.standing in
    let was = c.self.invariant in
    let seen = c.self.view_is in
    let here = was.finished in
    let least = was.replica.finished in
    let most = was.replica.one_more in
    let published = c.published.ensures in
    let not_idle = c.if-published-self.false in
    let hand : me.pass.published ≡ at_hand it = omega arith in
    let run = hand-in-run it me.heard me.row me.finished me.cores me.history was hand in
    sym (known-kept me.pass.logs.plan (at_hand it) (omega arith) run me.pass.core c.in-Some.row (sym (was.row hand) ∙ c.in-Some.is))
    ∙ ap (λ (r : Replica _). kept_row r.pass.logs.plan (at_hand r)) seen

pub returns-in-Some : goal.returns-in-Some
returns-in-Some g c = c.finish.ensures c.args.self.now (looked-not c.args.self.now)

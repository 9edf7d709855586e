use Rattle.std.proofs.Common.{◌≡◌, sym, subst, arith}
use Rattle.scr_replica.specs.Replicas.{Replica, at_hand}
use Rattle.scr_replica.specs.Stages.{replica_of}
use Rattle.scr_replica.proofs.AtHand.{few-hand}
use Rattle.scr_replica.proofs.replica.Replica.next_to_ask.Goals as goal

pub overflow_add-p : goal.overflow_add-p
overflow_add-p g c =
    let me = c.self.inside in
    let it : Replica _ = replica_of me.lane me.pass me.state me.counts me.asked me.standing in
    let was = c.self.invariant in
    let few = was.replica.published in
    let hand = subst (λ (r : Replica _). r.pass.published ≡ at_hand r) (sym c.self.view_is) c.requires.published in
    let small = few-hand it me.pass.published was.replica few in
    let here = was.finished in
    omega arith

pub overflow_add-p-in-loop-place : goal.overflow_add-p-in-loop-place
overflow_add-p-in-loop-place g c =
    let me = c.self.inside in
    let it : Replica _ = replica_of me.lane me.pass me.state me.counts me.asked me.standing in
    let was = c.self.invariant in
    let few = was.replica.published in
    let hand = subst (λ (r : Replica _). r.pass.published ≡ at_hand r) (sym c.self.view_is) c.requires.published in
    let small = few-hand it me.pass.published was.replica few in
    let here = was.finished in
    let cores = was.cores in
    let most = was.replica.is_logs.plan.few_cores in
    let below = c.loop-place-test.true in
    omega arith

use Rattle.std.proofs.Common.{◌∷◌, ◌++◌, [], sym, ap, subst, ◌∙◌}
use Rattle.scr_log.specs.declared.view.Noted.TheVariants.{Halt}
use Rattle.scr_log.specs.Passes.{OfCore}
use Rattle.scr_replica.specs.declared.standing.Standing.TheVariants as standing
use Rattle.scr_replica.specs.declared.turn.Turn.TheVariants.{Waiting, Halted}
use Rattle.scr_replica.specs.Replicas.{Replica}
use Rattle.scr_replica.specs.Turns.{WaitsFor}
use Rattle.scr_replica.specs.Stages.{replica_of, Keeps, HasOnlyLooked, Rests}
use Rattle.scr_replica.proofs.Looking.{waits-on, waits-halted}
use Rattle.scr_replica.proofs.Keeping.{keeps-looks, keeps-more_looks}
use Rattle.scr_replica.proofs.replica.Replica.wait.Goals as goal

pub invariant_of-self : goal.invariant_of-self
invariant_of-self g c =
    let me = c.self.inside in
    let e = c.halted.ensures in
    subst (λ (p : OfCore). Keeps (replica_of me.lane p me.state me.counts me.asked standing.Halted) me.heard me.row me.finished me.cores me.history) (sym e.1)
    (keeps-looks (replica_of me.lane me.pass me.state me.counts me.asked me.standing) me.heard me.row me.finished me.cores me.history c.self.invariant
    me.lane.looks me.pass.noted (me.pass.looks ++ Halt e.0 ∷ []) standing.Halted (λ is. absurd cc))

pub invariant_of-self-else-halted : goal.invariant_of-self-else-halted
invariant_of-self-else-halted g c =
    let me = c.self.inside in
    let e = c.halted.ensures in
    subst (λ (p : OfCore). Keeps (replica_of me.lane p me.state me.counts me.asked me.standing) me.heard me.row me.finished me.cores me.history) (sym e.1)
    (keeps-more_looks (replica_of me.lane me.pass me.state me.counts me.asked me.standing) me.heard me.row me.finished me.cores me.history c.self.invariant
    (me.pass.looks ++ Halt e.0 ∷ []))

pub returns : goal.returns
returns g c = λ before has waits.
    let me = c.self.inside in
    let e = c.halted.ensures in
    let mid : Replica _ = replica_of me.lane me.pass me.state me.counts me.asked me.standing in
    let seen = c.self.view_is in
    subst (λ (p : OfCore). Rests before (replica_of me.lane p me.state me.counts me.asked me.standing) (Waiting c.args.pending)) (sym e.1)
    (waits-on before mid (subst (HasOnlyLooked before) (sym seen) has) (ap (λ (r : Replica _). r.standing) seen ∙ c.requires.running) e.0
    c.args.pending (subst (λ (r : Replica _). WaitsFor before r c.args.pending) (sym seen) waits))

pub returns-then-halted : goal.returns-then-halted
returns-then-halted g c = λ before has waits.
    let me = c.self.inside in
    let e = c.halted.ensures in
    let mid : Replica _ = replica_of me.lane me.pass me.state me.counts me.asked me.standing in
    let seen = c.self.view_is in
    subst (λ (p : OfCore). Rests before (replica_of me.lane p me.state me.counts me.asked standing.Halted) Halted) (sym e.1)
    (waits-halted before mid (subst (HasOnlyLooked before) (sym seen) has) (ap (λ (r : Replica _). r.standing) seen ∙ c.requires.running) e.0
    (e.2.0 c.if-halted.true))

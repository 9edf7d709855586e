use Rattle.std.proofs.Common.{◌∷◌, ◌++◌, [], sym, subst}
use Rattle.scr_log.specs.declared.view.Noted.TheVariants.{Halt}
use Rattle.scr_log.specs.Passes.{OfCore}
use Rattle.scr_replica.specs.Stages.{replica_of, Keeps}
use Rattle.scr_replica.proofs.Keeping.{keeps-more_looks}
use Rattle.scr_replica.proofs.replica.Replica.halted.Goals as goal

pub invariant_of-self : goal.invariant_of-self
invariant_of-self g c =
    let me = c.self.inside in
    let e = c.halted.ensures in
    subst (λ (p : OfCore). Keeps (replica_of me.lane p me.state me.counts me.asked me.standing) me.heard me.row me.finished me.cores me.history) (sym e.1)
    (keeps-more_looks (replica_of me.lane me.pass me.state me.counts me.asked me.standing) me.heard me.row me.finished me.cores me.history c.self.invariant
    (me.pass.looks ++ Halt e.0 ∷ []))

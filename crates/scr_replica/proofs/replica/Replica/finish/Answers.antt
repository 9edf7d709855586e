use Rattle.std.proofs.Common.{◌≡◌, ◌+◌, ℕ, refl, sym, ap, subst, ◌∙◌, arith}
use Rattle.std.specs.Prelude.{is_some}
use Rattle.std.specs.Option.{option_copied}
use Rattle.scr_plan.specs.declared.counting.CoreCounts.{CoreCounts}
use Rattle.scr_plan.specs.Plan.{Plan}
use Rattle.scr_plan.specs.Delivered.{delivers_to}
use Rattle.scr_plan.specs.Kept.{carries_to}
use Rattle.scr_log.specs.Passes.{OfCore}
use Rattle.scr_replica.specs.declared.turn.Turn.{Turn}
use Rattle.scr_replica.specs.OneCore.{kept_row, kept_rows}
use Rattle.scr_replica.specs.Replicas.{Replica, Stands, at_hand}
use Rattle.scr_replica.specs.Stages.{replica_of, Keeps, HasOnlyLooked, IsTurn}
use Rattle.scr_replica.proofs.Packets.{is_some-kept_row}
use Rattle.scr_replica.proofs.Taking.{is_some-copied, counts_few, counts-more}
use Rattle.scr_replica.proofs.AtHand.{going, hand-small, hand-in-run}
use Rattle.scr_replica.proofs.Keeping.{keeps-finished}
use Rattle.scr_replica.proofs.WholeTurns.{finishes}
use Rattle.scr_replica.proofs.replica.Replica.finish.Goals as goal

pub overflow_add-p : goal.overflow_add-p
overflow_add-p g c =
    let me = c.self.inside in
    let it : Replica _ = replica_of me.lane me.pass me.state me.counts me.asked me.standing in
    let was = c.self.invariant in
    let hand = subst (λ (r : Replica _). r.pass.published ≡ at_hand r) (sym c.self.view_is) c.requires.published in
    let small = hand-small it me.heard me.row me.finished me.cores me.history was hand in
    let here = was.finished in
    omega arith

pub count-requires-clause-few_delivered : goal.count-requires-clause-few_delivered
count-requires-clause-few_delivered g c =
    let me = c.self.inside in
    let it : Replica _ = replica_of me.lane me.pass me.state me.counts me.asked me.standing in
    let was = c.self.invariant in
    let hand = subst (λ (r : Replica _). r.pass.published ≡ at_hand r) (sym c.self.view_is) c.requires.published in
    let small = hand-small it me.heard me.row me.finished me.cores me.history was hand in
    let few = (counts_few me.pass.logs.plan me.pass.finished (me.pass.finished + 1) refl me.pass.core).0 in
    omega (arith, ap (λ (x : CoreCounts). x.delivered) was.replica.counts)

pub count-requires-clause-few_carried : goal.count-requires-clause-few_carried
count-requires-clause-few_carried g c =
    let me = c.self.inside in
    let it : Replica _ = replica_of me.lane me.pass me.state me.counts me.asked me.standing in
    let was = c.self.invariant in
    let hand = subst (λ (r : Replica _). r.pass.published ≡ at_hand r) (sym c.self.view_is) c.requires.published in
    let small = hand-small it me.heard me.row me.finished me.cores me.history was hand in
    let few = (counts_few me.pass.logs.plan me.pass.finished (me.pass.finished + 1) refl me.pass.core).1 in
    omega (arith, ap (λ (x : CoreCounts). x.carried) was.replica.counts)

pub count-requires-clause-few_recovered : goal.count-requires-clause-few_recovered
count-requires-clause-few_recovered g c =
    let me = c.self.inside in
    let it : Replica _ = replica_of me.lane me.pass me.state me.counts me.asked me.standing in
    let was = c.self.invariant in
    let hand = subst (λ (r : Replica _). r.pass.published ≡ at_hand r) (sym c.self.view_is) c.requires.published in
    let small = hand-small it me.heard me.row me.finished me.cores me.history was hand in
    let few = (counts_few me.pass.logs.plan me.pass.finished (me.pass.finished + 1) refl me.pass.core).2 in
    omega (arith, ap (λ (x : CoreCounts). x.recovered) was.replica.counts)

pub count-requires-clause-few_skipped : goal.count-requires-clause-few_skipped
count-requires-clause-few_skipped g c =
    let me = c.self.inside in
    let it : Replica _ = replica_of me.lane me.pass me.state me.counts me.asked me.standing in
    let was = c.self.invariant in
    let hand = subst (λ (r : Replica _). r.pass.published ≡ at_hand r) (sym c.self.view_is) c.requires.published in
    let small = hand-small it me.heard me.row me.finished me.cores me.history was hand in
    let few = (counts_few me.pass.logs.plan me.pass.finished (me.pass.finished + 1) refl me.pass.core).3 in
    omega (arith, ap (λ (x : CoreCounts). x.skipped) was.replica.counts)

pub invariant_of-self : goal.invariant_of-self
invariant_of-self g c =
    let me = c.self.inside in
    let it : Replica _ = replica_of me.lane me.pass me.state me.counts me.asked me.standing in
    let was = c.self.invariant in
    let plan : Plan = me.pass.logs.plan in
    let core : ℕ = me.pass.core in
    let seen = c.self.view_is in
    let hand = subst (λ (r : Replica _). r.pass.published ≡ at_hand r) (sym seen) c.requires.published in
    let running = ap (λ (r : Replica _). r.standing) seen ∙ c.requires.running in
    let here = was.finished in
    let p : ℕ = me.finished + 1 in
    let is_hand : p ≡ at_hand it = omega arith in
    let next : me.pass.finished + 1 ≡ p = omega arith in
    let in_run = hand-in-run it me.heard me.row me.finished me.cores me.history was hand in
    let own = c.is_own-own.ensures ∙ ap (λ (r : Replica _). delivers_to r.pass.logs.plan r.pass.core (at_hand r)) (sym seen) ∙ ap (delivers_to plan core) (sym is_hand) in
    let known = c.knows-known.ensures ∙ ap (λ (r : Replica _). carries_to r.pass.logs.plan r.pass.core (at_hand r)) (sym seen) ∙ ap (carries_to plan core) (sym is_hand) in
    let row_is = c.requires.kept ∙ ap (λ (r : Replica _). kept_row r.pass.logs.plan (at_hand r)) (sym seen) ∙ ap (kept_row plan) (sym is_hand) in
    let kept = c.is_some.ensures ∙ is_some-copied c.args.row ∙ ap is_some row_is ∙ is_some-kept_row plan p (omega arith) (omega arith) in
    let counted =
    counts-more plan me.pass.finished p next core me.counts c.count.new.counts c.is_own-own.result c.knows-known.result c.is_some.result was.replica.counts own known kept
    c.count.ensures.delivered c.count.ensures.carried c.count.ensures.recovered c.count.ensures.skipped in
    subst (λ (q : OfCore). Keeps (replica_of me.lane q c.apply.new.state c.count.new.counts 0 me.standing) me.heard me.row p me.cores me.history) (sym c.finish.ensures)
    (keeps-finished it me.heard me.row me.finished me.cores me.history was (going it running) c.apply.new.state c.count.new.counts p is_hand hand counted)

pub returns-in-Ok : goal.returns-in-Ok
returns-in-Ok g c = λ before has.
    let me = c.self.inside in
    let it : Replica _ = replica_of me.lane me.pass me.state me.counts me.asked me.standing in
    let was = c.self.invariant in
    let plan : Plan = me.pass.logs.plan in
    let core : ℕ = me.pass.core in
    let seen = c.self.view_is in
    let hand = subst (λ (r : Replica _). r.pass.published ≡ at_hand r) (sym seen) c.requires.published in
    let running = ap (λ (r : Replica _). r.standing) seen ∙ c.requires.running in
    let stands = subst (λ (r : Replica _). Stands (g.P.Program.StandsFor c.args.settings.now) r) (sym seen) c.requires.stands in
    let here = was.finished in
    let p : ℕ = me.finished + 1 in
    let is_hand : p ≡ at_hand it = omega arith in
    let in_run = hand-in-run it me.heard me.row me.finished me.cores me.history was hand in
    let own = c.is_own-own.ensures ∙ ap (λ (r : Replica _). delivers_to r.pass.logs.plan r.pass.core (at_hand r)) (sym seen) ∙ ap (delivers_to plan core) (sym is_hand) in
    let row_is = c.requires.kept ∙ ap (λ (r : Replica _). kept_row r.pass.logs.plan (at_hand r)) (sym seen) ∙ ap (kept_row plan) (sym is_hand) in
    subst (λ (q : OfCore). IsTurn (g.P.Program.StandsFor c.args.settings.now) (g.P.Program.verdict_after c.args.settings.now) before (replica_of me.lane q c.apply.new.state c.count.new.counts 0 me.standing) c.turn_of.result) (sym c.finish.ensures)
    (subst (λ (t : Turn). IsTurn (g.P.Program.StandsFor c.args.settings.now) (g.P.Program.verdict_after c.args.settings.now) before
    (replica_of me.lane (record me.pass { finished = p }) c.apply.new.state c.count.new.counts 0 me.standing) t) (sym c.turn_of.ensures)
    (finishes (g.P.Program.StandsFor c.args.settings.now) (g.P.Program.verdict_after c.args.settings.now) before it (subst (HasOnlyLooked before) (sym seen) has) running
    c.apply.new.state c.count.new.counts p is_hand c.in-Ok.given (option_copied c.args.row) c.is_own-own.result (omega arith) row_is own
    (c.in-Ok.ensures.state (kept_rows plan me.pass.finished) stands) (c.in-Ok.ensures.given (kept_rows plan me.pass.finished) stands)))

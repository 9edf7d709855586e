use Rattle.std.proofs.Common.{◌≡◌, ◌≢◌, ◌+◌, ◌≤◌, ◌<◌, ◌∷◌, ◌++◌, [], ℕ, List, inl, inr, Some, None, sym, ap, subst, ◌∙◌, arith}
use Rattle.std.proofs.lemmas.Bool.{cases_lt}
use Rattle.std.proofs.lemmas.List.{append-nil}
use Rattle.scr_plan.specs.Plan.{Plan, IsPlan, frame_count}
use Rattle.scr_plan.specs.Delivered.{core_number}
use Rattle.scr_plan.specs.FinalEntry.{final_entry}
use Rattle.scr_log.specs.declared.view.Noted.{Noted}
use Rattle.scr_log.specs.declared.view.Noted.TheVariants.{Tag}
use Rattle.scr_log.specs.Entries.{tag_number}
use Rattle.scr_log.specs.Passes.{LogsOf, OfCore}
use Rattle.scr_replica.specs.declared.turn.Pending.TheVariants.{NotYet}
use Rattle.scr_replica.specs.OneCore.{kept_row}
use Rattle.scr_replica.specs.Replicas.{Replica, at_hand, asked}
use Rattle.scr_replica.specs.Turns.{WaitsFor}
use Rattle.scr_replica.specs.Stages.{replica_of, Keeps, HasOnlyLooked}
use Rattle.scr_replica.proofs.Packets.{known-kept}
use Rattle.scr_replica.proofs.Looking.{looked-not, looked-one}
use Rattle.scr_replica.proofs.AtHand.{going, hand-small, hand-in-run}
use Rattle.scr_replica.proofs.Keeping.{keeps-more_looks, keeps-lost}
use Rattle.scr_replica.proofs.WholeTurns.{turn-rests}
use Rattle.scr_replica.proofs.Asking.{all-lost}
use Rattle.scr_replica.proofs.replica.Replica.ask.Goals as goal

tag-below : (found tag p hand : ℕ) → found ≡ tag → tag_number tag < p → p ≡ hand → tag_number found < hand
tag-below found tag p hand same below is = omega (arith, ap tag_number same)

pub overflow_add-p : goal.overflow_add-p
overflow_add-p g c =
    let me = c.self.inside in
    let it : Replica _ = replica_of me.lane me.pass me.state me.counts me.asked me.standing in
    let was = c.self.invariant in
    let seen = c.self.view_is in
    let hand = subst (λ (r : Replica _). r.pass.published ≡ at_hand r) (sym seen) c.requires.published in
    let small = hand-small it me.heard me.row me.finished me.cores me.history was hand in
    let here = was.finished in
    omega arith

pub overflow_add-p-2 : goal.overflow_add-p-2
overflow_add-p-2 g c =
    let me = c.self.inside in
    let it : Replica _ = replica_of me.lane me.pass me.state me.counts me.asked me.standing in
    let was = c.self.invariant in
    let seen = c.self.view_is in
    let hand = subst (λ (r : Replica _). r.pass.published ≡ at_hand r) (sym seen) c.requires.published in
    let small = hand-small it me.heard me.row me.finished me.cores me.history was hand in
    let here = was.finished in
    let cores = was.cores in
    let most = was.replica.is_logs.plan.few_cores in
    let below = c.if-place-self.false in
    omega arith

pub finish-requires-clause-kept : goal.finish-requires-clause-kept
finish-requires-clause-kept g c κs within =
    let me = c.self.inside in
    let it : Replica _ = replica_of me.lane me.pass me.state me.counts me.asked me.standing in
    let was = c.self.invariant in
    let seen = c.self.view_is in
    let hand = subst (λ (r : Replica _). r.pass.published ≡ at_hand r) (sym seen) c.requires.published in
    let cores = was.cores ∙ ap (λ (r : Replica _). r.pass.logs.plan.cores) seen in
    let over = c.if-place-self.true in
    let is_plan = subst (λ (r : Replica _). IsPlan r.pass.logs.plan) seen was.replica.is_logs.plan in
    let run = subst (λ (r : Replica _). at_hand r ≤ frame_count r.pass.logs.plan) seen (hand-in-run it me.heard me.row me.finished me.cores me.history was hand) in
    all-lost c.args.self.now.pass.logs.plan (at_hand c.args.self.now) is_plan (omega arith) run
    (λ i below. c.next_to_ask-place.ensures.lost i (omega arith))

pub returns-then-place-self : goal.returns-then-place-self
returns-then-place-self g c = c.finish.ensures c.args.self.now (looked-not c.args.self.now)

pub invariant_of-self : goal.invariant_of-self
invariant_of-self g c =
    let me = c.self.inside in
    let it : Replica _ = replica_of me.lane me.pass me.state me.counts me.asked me.standing in
    let was = c.self.invariant in
    let seen = c.self.view_is in
    let e = c.look.ensures in
    subst (λ (q : OfCore). Keeps (replica_of me.lane q me.state me.counts me.asked me.standing) me.heard me.row me.finished me.cores me.history) (sym e.1)
    (keeps-more_looks it me.heard me.row me.finished me.cores me.history was (me.pass.looks ++ Tag c.core_of-core.result (me.finished + 1) e.0 ∷ []))

pub invariant_of-self-in-NotYet : goal.invariant_of-self-in-NotYet
invariant_of-self-in-NotYet g c =
    let me = c.self.inside in
    let it : Replica _ = replica_of me.lane me.pass me.state me.counts me.asked me.standing in
    let was = c.self.invariant in
    let seen = c.self.view_is in
    let e = c.look.ensures in
    subst (λ (q : OfCore). Keeps (replica_of me.lane q me.state me.counts me.asked me.standing) me.heard me.row me.finished me.cores me.history) (sym e.1)
    (keeps-more_looks it me.heard me.row me.finished me.cores me.history was (me.pass.looks ++ Tag c.core_of-core.result (me.finished + 1) e.0 ∷ []))

pub finish-requires-in-Row-clause-kept : goal.finish-requires-in-Row-clause-kept
finish-requires-in-Row-clause-kept g c κs within =
    let me = c.self.inside in
    let it : Replica _ = replica_of me.lane me.pass me.state me.counts me.asked me.standing in
    let was = c.self.invariant in
    let seen = c.self.view_is in
    let hand = subst (λ (r : Replica _). r.pass.published ≡ at_hand r) (sym seen) c.requires.published in
    let these = ap (λ (r : Replica _). r.pass.logs) seen ∙ c.requires.of_these in
    let e = c.in-Row.ensures in
    let here = was.finished in
    let is_hand : me.finished + 1 ≡ at_hand it = omega arith in
    let run = hand-in-run it me.heard me.row me.finished me.cores me.history was hand in
    let told = subst (λ (l : LogsOf). final_entry l.plan c.core_of-core.result (me.finished + 1) ≡ Some c.in-Row.row) (sym these) e.2.1 in
    let final = subst (λ (p : ℕ). final_entry me.pass.logs.plan c.core_of-core.result p ≡ Some c.in-Row.row) is_hand told in
    subst (λ (q : OfCore). Some c.in-Row.row ≡ kept_row q.logs.plan (q.finished + 1)) (sym e.1)
    (sym (known-kept me.pass.logs.plan (at_hand it) (omega arith) run c.core_of-core.result c.in-Row.row final))

pub invariant_of-self-in-Lost : goal.invariant_of-self-in-Lost
invariant_of-self-in-Lost g c =
    let me = c.self.inside in
    let it : Replica _ = replica_of me.lane me.pass me.state me.counts me.asked me.standing in
    let was = c.self.invariant in
    let seen = c.self.view_is in
    let running = ap (λ (r : Replica _). r.standing) seen ∙ c.requires.running in
    let these = ap (λ (r : Replica _). r.pass.logs) seen ∙ c.requires.of_these in
    let e = c.in-Lost.ensures in
    let here = was.finished in
    let place : ℕ = c.next_to_ask-place.result in
    let plan : Plan = me.pass.logs.plan in
    let is_hand : me.finished + 1 ≡ at_hand it = omega arith in
    let cores = was.cores in
    let below = c.if-place-self.false in
    let core : c.core_of-core.result ≡ asked plan (at_hand it) place =
    c.core_of-core.ensures ∙ ap (λ (k : ℕ). core_number k (me.finished + 1 + place)) cores ∙ ap (λ (p : ℕ). core_number plan.cores (p + place)) is_hand in
    let before = subst (λ (r : Replica _). (i : ℕ) → i < place → final_entry r.pass.logs.plan (asked r.pass.logs.plan (at_hand r) i) (at_hand r) ≡ None) (sym seen) c.next_to_ask-place.ensures.lost in
    let told = subst (λ (l : LogsOf). final_entry l.plan c.core_of-core.result (me.finished + 1) ≡ None) (sym these) e.2.1 in
    let last : final_entry plan (asked plan (at_hand it) place) (at_hand it) ≡ None =
    subst (λ (k : ℕ). final_entry plan k (at_hand it) ≡ None) core (subst (λ (p : ℕ). final_entry plan c.core_of-core.result p ≡ None) is_hand told) in
    subst (λ (q : OfCore). Keeps (replica_of me.lane q me.state me.counts (place + 1) me.standing) me.heard me.row me.finished me.cores me.history) (sym e.1)
    (keeps-lost it me.heard me.row me.finished me.cores me.history was (going it running) (me.pass.looks ++ Tag c.core_of-core.result (me.finished + 1) e.0 ∷ []) (place + 1)
    (omega arith)
    (λ i less.
    elim (cases_lt i place) as (λ _. final_entry plan (asked plan (at_hand it) i) (at_hand it) ≡ None) [
      | inl early ↦ before i early
      | inr late ↦ (let same : place ≡ i = omega arith in subst (λ (j : ℕ). final_entry plan (asked plan (at_hand it) j) (at_hand it) ≡ None) same last)
    ]))

pub returns-in-Row : goal.returns-in-Row
returns-in-Row g c =
    let me = c.self.inside in
    let it : Replica _ = replica_of me.lane me.pass me.state me.counts me.asked me.standing in
    let was = c.self.invariant in
    let seen = c.self.view_is in
    let e = c.look.ensures in
    let look : Noted = Tag c.core_of-core.result (me.finished + 1) e.0 in
    c.finish-in-Row.ensures c.args.self.now
    (subst (λ (r : Replica _). HasOnlyLooked r (replica_of me.lane c.look.new.pass me.state me.counts me.asked me.standing)) seen
    (subst (λ (q : OfCore). HasOnlyLooked it (replica_of me.lane q me.state me.counts me.asked me.standing)) (sym e.1) (looked-one it look)))

pub returns-in-NotYet : goal.returns-in-NotYet
returns-in-NotYet g c =
    let me = c.self.inside in
    let it : Replica _ = replica_of me.lane me.pass me.state me.counts me.asked me.standing in
    let was = c.self.invariant in
    let seen = c.self.view_is in
    let e = c.in-NotYet.ensures in
    let place : ℕ = c.next_to_ask-place.result in
    let plan : Plan = me.pass.logs.plan in
    let here = was.finished in
    let is_hand : me.finished + 1 ≡ at_hand it = omega arith in
    let cores = was.cores in
    let below = c.if-place-self.false in
    let core : c.core_of-core.result ≡ asked plan (at_hand it) place =
    c.core_of-core.ensures ∙ ap (λ (k : ℕ). core_number k (me.finished + 1 + place)) cores ∙ ap (λ (p : ℕ). core_number plan.cores (p + place)) is_hand in
    let own : me.pass.core ≡ c.args.self.now.pass.core = ap (λ (r : Replica _). r.pass.core) seen in
    let other = subst (λ (r : Replica _). place < r.pass.logs.plan.cores → asked r.pass.logs.plan (at_hand r) place ≢ r.pass.core) (sym seen) c.next_to_ask-place.ensures.other in
    let look : Noted = Tag c.core_of-core.result (me.finished + 1) e.0 in
    let same : look ≡ Tag c.core_of-core.result (at_hand it) c.in-NotYet.tag =
    ap (λ (p : ℕ). Tag c.core_of-core.result p e.0) is_hand ∙ ap (λ (t : ℕ). Tag c.core_of-core.result (at_hand it) t) (sym e.2.0) in
    let small = e.2.1 in
    let mid : Replica _ = replica_of me.lane c.look.new.pass me.state me.counts me.asked me.standing in
    let waits : WaitsFor it mid (NotYet c.core_of-core.result c.in-NotYet.tag) = (
      subst (λ (r : Replica _). r.pass.published ≡ at_hand r) (sym seen) c.requires.published,
      subst (λ (r : Replica _). final_entry r.pass.logs.plan r.pass.core (at_hand r) ≡ None) (sym seen) c.requires.lost,
      (place, subst (λ (r : Replica _). r.lost_to ≤ place) (sym seen) c.next_to_ask-place.ensures.from, core),
      (λ is. other (omega arith) (sym core ∙ is)),
      tag-below c.in-NotYet.tag e.0 (me.finished + 1) (at_hand it) e.2.0 small is_hand,
      (
        [],
        [],
        ap (λ (q : OfCore). q.looks) e.1
            ∙ ap (λ (l : Noted). me.pass.looks ++ l ∷ []) same
            ∙ ap (λ (ls : List Noted). ls ++ Tag c.core_of-core.result (at_hand it) c.in-NotYet.tag ∷ []) (sym (append-nil me.pass.looks)),
      ),
    ) in
    let has = subst (λ (q : OfCore). HasOnlyLooked it (replica_of me.lane q me.state me.counts me.asked me.standing)) (sym e.1) (looked-one it look) in
    turn-rests (g.P.Program.StandsFor c.args.settings.now) (g.P.Program.verdict_after c.args.settings.now) c.args.self.now c.wait.new.self c.wait.result c.requires.stands
    (c.wait.ensures c.args.self.now (subst (λ (r : Replica _). HasOnlyLooked r mid) seen has)
    (subst (λ (r : Replica _). WaitsFor r mid (NotYet c.core_of-core.result c.in-NotYet.tag)) seen waits))

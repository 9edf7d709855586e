use Rattle.std.proofs.Common.{◌+◌, ◌<◌, ℕ, List, Some, length, get_or, arith, ap, sym, subst, ◌∙◌}
use Rattle.std.specs.Prelude.{slice_get}
use Rattle.std.proofs.lemmas.Option.{slice_get-get_or}
use Rattle.scr_base.specs.declared.row.Row.{Row}
use Rattle.scr_plan.specs.Link.{fate_of}
use Rattle.scr_plan.specs.Plan.{frame_count}
use Rattle.scr_sequencer.specs.Sequence.{Sequence, begun}
use Rattle.scr_sequencer.specs.Answers.{Adds, Follows}
use Rattle.scr_sequencer.proofs.Following.{follows_none}
use Rattle.scr_replica.proofs.filling.fill.Goals as goal
use Rattle.scr_replica.proofs.filling.fill.Goals.{After-outgoing-in-loop-i-1}

pub loop-i-init : goal.loop-i-init
loop-i-init c =
    let begins = c.in_ok-sequencer.ensures ∙ (λ i. begun (c.cores.ensures.cores i) (c.history.ensures.history i)) in
    record {
      follows = subst (Follows c.args.plan.now) (sym begins) (follows_none c.args.plan.now c.requires.is_plan);
      taken = ap (λ (s : Sequence). s.taken) begins;
      took = c.requires;
    }

within : (c : After-outgoing-in-loop-i-1) → c.loop-i.i < frame_count c.args.plan.now
within c = omega (arith, ap length c.rows-row-items.ensures.rows, c.loop-i-test.true)

-- the answer is what the next step adds to the lanes
lanes : (c : After-outgoing-in-loop-i-1) → Adds c.args.plan.now (c.loop-i.i + 1) c.in_ok-outgoing.outgoing × Follows c.args.plan.now c.next.new.self
lanes c =
    let was = c.loop-i.invariant in
    let plan = c.args.plan.now in
    let i : ℕ = c.loop-i.i in
    let zero : Row = record { w0 = 0; w1 = 0; w2 = 0; w3 = 0; w4 = 0; w5 = 0; w6 = 0 } in
    let both = c.in_ok-outgoing.ensures.lanes plan was.follows
    (record {
      row_is =
          ap (slice_get plan.rows) was.taken
          ∙ slice_get-get_or plan.rows i zero (within c)
          ∙ ap (λ (xs : List Row). Some (get_or xs i zero)) (sym c.rows-row-items.ensures.rows);
      fate_is =
          c.index.ensures
          ∙ c.in_ok-fates.ensures.fates i c.index.result.now (within c)
          ∙ ap (λ (k : ℕ). fate_of plan.link (k + 1)) (sym was.taken);
    }) in
    (subst (λ (k : ℕ). Adds plan (k + 1) c.in_ok-outgoing.outgoing) was.taken both.0, both.1)

pub give_step-requires : goal.give_step-requires
give_step-requires c = (c.loop-i.i, within c, c.loop-i.invariant.took, (lanes c).0)

pub loop-i-preserved : goal.loop-i-preserved
loop-i-preserved c =
    let here = (goal.at.loop-i-preserved c).After-outgoing-in-loop-i-1 in
    let was = c.loop-i.invariant in
    record {
      follows = (lanes here).1;
      taken = ap (λ (s : Sequence). s.taken) c.in_ok-outgoing.ensures.ok ∙ ap (λ (k : ℕ). k + 1) was.taken;
      took = c.in_ok-give_step.ensures c.loop-i.i (within here) was.took (lanes here).0;
    }

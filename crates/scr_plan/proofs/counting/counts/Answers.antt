use Rattle.std.proofs.Common.{◌≡◌, ◌≤◌, ◌-◌, ℕ, true, false, sym, ap, ◌∙◌, arith, refl, replicate, subst}
use Rattle.std.proofs.lemmas.List.{length-replicate}
use Rattle.scr_plan.specs.Link.{Link}
use Rattle.scr_plan.specs.declared.counting.Tally.{Tally}
use Rattle.scr_plan.specs.Plan.{Plan, HasParts, frame_count}
use Rattle.scr_plan.specs.Counts.{plan_counts}
use Rattle.scr_plan.specs.Delivered.{delivers, core_number}
use Rattle.scr_plan.proofs.Delivering.{delivered_to-undelivered, delivered_to-other, delivered_to-own}
use Rattle.scr_plan.proofs.Tallies.{AreTallies, IsTally-none, IsTally-moved, IsTally-same, IsTally-skips_at, IsTally-counts_at}
use Rattle.scr_plan.proofs.Totals.{IsCounted, IsCounted-from_tallies}
use Rattle.scr_plan.proofs.counting.counts.Goals as goal
use Rattle.scr_plan.proofs.counting.counts.Goals.{then-core_of-core, else-core_of-core}

-- a plan with these parts
some_plan : (link : Link) (cores frames : ℕ) → Plan
some_plan link cores frames = record {
  rows = replicate frames (record { w0 = 0; w1 = 0; w2 = 0; w3 = 0; w4 = 0; w5 = 0; w6 = 0 });
  cores = cores;
  history = 0;
  link = link;
}

some_parts : (link : Link) (cores frames : ℕ) → HasParts (some_plan link cores frames) link cores frames
unfolding some_plan
some_parts link cores frames = record { link_is = refl; cores_are = refl; frames_are = length-replicate frames _ }

-- what is counted so far
tallies : (link : Link) (k h t core m : ℕ) (own all : Tally)
    → ((plan : Plan) → HasParts plan link k t → AreTallies plan core h m own all)
    → AreTallies (some_plan link k t) core h m own all
tallies link k h t core m own all are = are (some_plan link k t) (some_parts link k t)

pub loop-frame-init : goal.loop-frame-init
loop-frame-init c plan parts = record {
  of_own = IsTally-none _ _ _ refl refl refl;
  of_all = IsTally-none _ _ _ refl refl refl;
}

pub add-requires-clause-behind : goal.add-requires-clause-behind
add-requires-clause-behind c =
    let are = tallies _ _ _ _ _ _ _ _ c.loop-frame.invariant in
    omega (arith, are.of_all.last)

pub add-requires-clause-few_frames : goal.add-requires-clause-few_frames
add-requires-clause-few_frames c = (tallies _ _ _ _ _ _ _ _ c.loop-frame.invariant).of_all.few_frames

pub add-requires-clause-few_packets : goal.add-requires-clause-few_packets
add-requires-clause-few_packets c = (tallies _ _ _ _ _ _ _ _ c.loop-frame.invariant).of_all.few_packets

pub add-requires-then-core_of-core-clause-behind : goal.add-requires-then-core_of-core-clause-behind
add-requires-then-core_of-core-clause-behind c =
    let are = tallies _ _ _ _ _ _ _ _ c.loop-frame.invariant in
    omega (arith, are.of_own.last)

pub add-requires-then-core_of-core-clause-few_frames : goal.add-requires-then-core_of-core-clause-few_frames
add-requires-then-core_of-core-clause-few_frames c = (tallies _ _ _ _ _ _ _ _ c.loop-frame.invariant).of_own.few_frames

pub add-requires-then-core_of-core-clause-few_packets : goal.add-requires-then-core_of-core-clause-few_packets
add-requires-then-core_of-core-clause-few_packets c = (tallies _ _ _ _ _ _ _ _ c.loop-frame.invariant).of_own.few_packets

pub loop-frame-preserved-then-not-delivered : goal.loop-frame-preserved-then-not-delivered
loop-frame-preserved-then-not-delivered c plan parts =
    let f = c.loop-frame.frame in
    let before = c.loop-frame.invariant plan parts in
    let gone : delivers plan f ≡ false = sym (c.delivered.ensures plan parts) ∙ c.if-not-delivered.true in
    record {
      of_own = IsTally-skips_at _ _ f _ (omega arith) (delivered_to-undelivered plan c.args.core f gone) before.of_own;
      of_all = IsTally-skips_at _ _ f _ (omega arith) gone before.of_all;
    }

pub loop-frame-preserved : goal.loop-frame-preserved
loop-frame-preserved c plan parts =
    let f = c.loop-frame.frame in
    let before = c.loop-frame.invariant plan parts in
    let from : 1 ≤ f = omega arith in
    let goes : delivers plan f ≡ true = sym (c.delivered.ensures plan parts) ∙ c.if-not-delivered.false in
    let of_core : c.core_of.result ≡ core_number plan.cores f = c.core_of.ensures ∙ ap (λ (k : ℕ). core_number k f) (sym parts.cores_are) in
    record {
      of_own =
          elim c.if-core_of-core.branch [
            | then-core_of-core w ↦ IsTally-same _ _ _ _ _ w.own-is
                (IsTally-counts_at _ _ f _ _ from (delivered_to-own plan c.args.core f goes (sym of_core ∙ w.if-core_of-core.true))
                before.of_own w.add-then-core_of-core.ensures.frames w.add-then-core_of-core.ensures.packets
                w.add-then-core_of-core.ensures.last)
            | else-core_of-core w ↦ IsTally-same _ _ _ _ _ w.own-is
                (IsTally-skips_at _ _ f _ from
                (delivered_to-other plan c.args.core f (λ same. w.if-core_of-core.false (of_core ∙ same)))
                before.of_own)
          ];
      of_all = IsTally-counts_at _ _ f _ _ from goes before.of_all c.add.ensures.frames c.add.ensures.packets c.add.ensures.last;
    }

counted : (c : goal.After-loop-frame) (plan : Plan) → HasParts plan c.args.link.now c.args.k c.args.t → plan.history ≡ c.args.h
    → IsCounted plan c.args.core c.loop-frame.own c.loop-frame.all
counted c plan parts history =
    let frames = parts.frames_are in
    let end : c.loop-frame.frame - 1 ≡ frame_count plan = omega arith in
    let are = subst (λ (h : ℕ). AreTallies plan c.args.core h (c.loop-frame.frame - 1) c.loop-frame.own c.loop-frame.all)
    (sym history) (c.loop-frame.invariant plan parts) in
    IsCounted-from_tallies _ _ _ _ (IsTally-moved _ _ _ _ _ end are.of_own) (IsTally-moved _ _ _ _ _ end are.of_all)

-- a plan with this history too
with_history : (h : ℕ) (plan : Plan) → Plan
with_history h plan = record plan { history = h }

some_counted : (c : goal.After-loop-frame)
    → IsCounted (with_history c.args.h (some_plan c.args.link.now c.args.k c.args.t)) c.args.core c.loop-frame.own c.loop-frame.all
unfolding with_history
some_counted c =
    let parts = some_parts c.args.link.now c.args.k c.args.t in
    counted c (with_history c.args.h (some_plan c.args.link.now c.args.k c.args.t))
    (record { link_is = parts.link_is; cores_are = parts.cores_are; frames_are = parts.frames_are }) refl

pub overflow_sub-result : goal.overflow_sub-result
overflow_sub-result c = (some_counted c).fewer

pub overflow_sub-result-2 : goal.overflow_sub-result-2
unfolding with_history
overflow_sub-result-2 c =
    let frames = (some_parts c.args.link.now c.args.k c.args.t).frames_are in
    omega (arith, (some_counted c).within, frames)

pub returns : goal.returns
returns c plan parts history =
    let result = (counted c plan parts history).result in
    subst (λ (t : ℕ). record {
      delivered = c.loop-frame.own.frames;
      carried = c.loop-frame.own.packets;
      recovered = c.loop-frame.all.packets - c.loop-frame.own.packets;
      skipped = t - c.loop-frame.all.packets;
    } ≡ plan_counts plan c.args.core) parts.frames_are result

use Rattle.std.proofs.Common.{◌≡◌, ◌+◌, ◌-◌, ◌<◌, ℕ, List, length, arith, refl, sym, ap, subst, ◌∙◌}
use Rattle.std.specs.List.{All, flat_map}
use Rattle.scr_plan.specs.Delays.{greatest_delay}
use Rattle.scr_plan.specs.Plan.{frame_count}
use Rattle.scr_sequencer.specs.Sequence.{Arriving}
use Rattle.scr_sequencer.specs.Answers.{Adds, AddsFrom, late, packets_to}
use Rattle.scr_replica.specs.Awaiting.{AllAwait, AllTook}
use Rattle.scr_replica.proofs.Awaiting.{begun}
use Rattle.scr_replica.proofs.filling.give_late.Goals as goal
use Rattle.scr_replica.proofs.filling.give_late.Goals.{After-deref}

-- how many steps the cores took
abbrev step : After-deref → ℕ
step c = frame_count c.args.plan.now + greatest_delay - length c.loop-frames.rest.held

few : (c : After-deref) → length c.loop-frames.rest.held ≡ length c.step.new.self.held + 1
few c = ap length c.in-Some.ensures.some ∙ omega arith

adds : (c : After-deref) → Adds c.args.plan.now (step c + 1) (late c.in-Some.frames.items) × AddsFrom c.args.plan.now (step c + 1 + 1) c.step.new.self.held
adds c = subst (AddsFrom c.args.plan.now (step c + 1)) c.in-Some.ensures.some c.loop-frames.invariant.adds

frames-awaited : (c : After-deref) → AllAwait c.args.plan.now (step c + 1) (λ core. flat_map (packets_to core) c.deref.result.now) c.loop-frames.cores
frames-awaited c =
    let plan = c.args.plan.now in
    let was = c.loop-frames.invariant in
    let count = few c in
    let little = was.few in
    subst (λ (frames : List Arriving). AllAwait plan (step c + 1) (λ core. flat_map (packets_to core) frames) c.loop-frames.cores)
    (sym c.deref.ensures.value)
    (begun plan (step c) (step c + 1) (late c.in-Some.frames.items) c.loop-frames.cores refl (omega arith) was.took (adds c).0)

pub give_frames-requires-clause-core : goal.give_frames-requires-clause-core
give_frames-requires-clause-core c =
    subst (All (λ (it : Arriving). it.core < c.args.plan.now.cores)) (sym c.deref.ensures.value) (adds c).0.cores

pub give_frames-requires-clause-awaited : goal.give_frames-requires-clause-awaited
give_frames-requires-clause-awaited c = (step c + 1, frames-awaited c)

pub loop-frames-preserved : goal.loop-frames-preserved
loop-frames-preserved c =
    let here = (goal.at.loop-frames-preserved c).After-deref in
    let plan = c.args.plan.now in
    let was = c.loop-frames.invariant in
    let count = few here in
    let little = was.few in
    let next : step here + 1 ≡ frame_count plan + greatest_delay - length c.step.new.self.held = omega arith in
    record {
      few = omega arith;
      took = subst (λ (n : ℕ). AllTook plan n c.give_frames.new.cores) next (c.in_ok-give_frames.ensures (step here + 1) (frames-awaited here));
      adds = subst (λ (n : ℕ). AddsFrom plan (n + 1) c.step.new.self.held) next (adds here).1;
      end = c.in-Some.ensures.end ∙ was.end;
    }

use Rattle.std.proofs.Common.{◌≡◌, ◌+◌, ◌<◌, cond, eqb, ℕ, List, ◌++◌, length, get_or, drop, sym, ap, subst, ◌∙◌, arith}
use Rattle.std.proofs.lemmas.List.{get_or-take, get_or_append_left}
use Rattle.std.proofs.lemmas.Grind.{common_steps}
use Rattle.scr_plan.specs.Delays.{IsDelayList, delay_of}
use Rattle.scr_plan.specs.declared.delays.FrameDelay.{FrameDelay}
use Rattle.scr_plan.proofs.Marking.{delay_of-more}
use Rattle.scr_plan.proofs.delays.Delays.steps.Goals as goal

pub loop-delay-init : goal.loop-delay-init
unfolding delay_of
loop-delay-init c = grind (arith, common_steps)

pub loop-delay-preserved : goal.loop-delay-preserved
loop-delay-preserved c =
    let i = c.loop-delay.delay-index in
    let items = c.deref-delay-items.result.now in
    let is = subst IsDelayList (sym (c.deref-delay-items.ensures.value)) c.self.invariant in
    let none : FrameDelay = record { frame = 0; steps = 0 } in
    let old : List ℕ = c.loop-delay.steps.items in
    let new : List ℕ = c.put_down.new.steps in
    let long : length new ≡ c.args.count = c.put_down.auto.steps ∙ ap length c.deref_mut.ensures.value ∙ c.loop-delay.invariant.count in
    record {
      count = grind (arith, common_steps);
      steps = λ k within.
          let below : k < length c.deref_mut.result.now = let same = ap length c.deref_mut.ensures.value in let count = c.loop-delay.invariant.count in omega arith in
          let room : k < c.loop-delay.steps.len = let count = c.loop-delay.invariant.count in omega (arith, c.loop-delay.steps.ok.0) in
          let step : ℕ → ℕ = λ before. cond (eqb (get_or items i none).frame (k + 1)) (get_or items i none).steps before in
          get_or-take c.loop-delay.steps.len (new ++ drop (length new) old) k 0 room
          ∙ get_or_append_left new (drop (length new) old) 0 k (omega arith)
          ∙ c.put_down.ensures k below
          ∙ ap step (ap (λ (xs : List ℕ). get_or xs k 0) c.deref_mut.ensures.value ∙ c.loop-delay.invariant.steps k within)
          ∙ sym (delay_of-more items i (k + 1) none is c.loop-delay-test.true);
    }

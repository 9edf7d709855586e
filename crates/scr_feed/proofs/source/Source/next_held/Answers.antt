use Rattle.std.proofs.Common.{◌≡◌, ◌<◌, ◌≤◌, ℕ, ◌+◌, List, [], ◌∷◌, length, Option, Some, None, sym, ap, subst, arith}
use Rattle.std.specs.Prelude.{IfSome, IfNone, MatchOption}
use Rattle.scr_plan.specs.Plan.{Plan, frame_count}
use Rattle.scr_wire.specs.Lane.{last_step}
use Rattle.scr_sequencer.specs.Sequence.{Arriving}
use Rattle.scr_sequencer.specs.Answers.{Behind, Adds, AddsFrom, late}
use Rattle.scr_feed.specs.Source.{Gives}
use Rattle.scr_feed.proofs.source.Source.next_held.Goals as goal

pub returns-in_err-rest : goal.returns-in_err-rest
returns-in_err-rest c = λ plan n gives behind.
    let none = (c.in_err-rest.ensures plan n (subst (Gives plan n) (sym c.replace.ensures.value) gives) behind).1 in absurd cc

abbrev Rests : Plan → (n : ℕ) → List (List Arriving) → Type 0
Rests plan n held = (frame_count plan ≤ n) × (n + length held ≡ last_step plan) × AddsFrom plan (n + 1) held

-- one step more, or none
one_step : {V : Type 0} (items : V → List Arriving) (plan : Plan) (n : ℕ) (old new : Behind) (r : Option V) → Rests plan n old.held
    → IfSome r (λ frames. old.held ≡ items frames ∷ new.held) → IfNone r (old.held ≡ []) → IfNone r (new ≡ old)
    → MatchOption r ((n ≡ last_step plan) × Rests plan n new.held) (λ frames. (n < last_step plan) × Adds plan (n + 1) (late (items frames)) × Rests plan (n + 1) new.held)
one_step items plan n old new None rests some none over =
    let nothing = ap length none in
    let count = rests.1 in
    (omega arith, subst (λ (it : Behind). Rests plan n it.held) (sym over) rests)
one_step items plan n old new (Some frames) rests some none over =
    let here = subst (Rests plan n) some rests in
    let count = here.1 in
    let behind = here.0 in
    (omega arith, here.2.0, (omega arith, omega arith, here.2.1))

pub returns : goal.returns
returns c = λ plan n gives behind.
    one_step _ plan n c.in_ok-rest.rest c.step-frames.new.self c.step-frames.result
    ((c.in_ok-rest.ensures plan n (subst (Gives plan n) (sym c.replace.ensures.value) gives) behind).0)
    c.step-frames.ensures.some c.step-frames.ensures.none c.step-frames.ensures.over

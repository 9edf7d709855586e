use Rattle.std.proofs.Common.{List, take, ap, ◌∙◌}
use Rattle.scr_plan.specs.Delays.{greatest_delay}
use Rattle.scr_sequencer.specs.Sequence.{Arriving, Sequence}
use Rattle.scr_sequencer.specs.Answers.{Behind}
use Rattle.scr_sequencer.proofs.Adding.{rest_adds}
use Rattle.scr_sequencer.proofs.Rotating.{popped}
use Rattle.scr_sequencer.proofs.sequencer.Sequencer.finish.Goals as goal

pub returns-clause-rest : goal.returns-clause-rest
returns-clause-rest c =
    let s = c.self.inside in
    ap (λ (held : List (List Arriving)). record { held = held; end = s.taken })
    (popped _ s.held.items c.pop_back.new.self.items greatest_delay (ap (λ b. b.items) c.pop_back.ensures.items) c.self.invariant.0.steps)
    ∙ ap (λ (it : Sequence). record { held = take greatest_delay it.held; end = it.taken }) c.self.view_is

pub returns-clause-lanes : goal.returns-clause-lanes
returns-clause-lanes c plan follows all =
    rest_adds plan c.args.self _ follows all (ap (λ (it : Behind). it.held) (returns-clause-rest c))

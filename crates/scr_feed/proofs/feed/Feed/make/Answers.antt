use Rattle.std.proofs.Common.{◌≡◌, [], sym, refl, ap, ◌∙◌, subst}
use Rattle.scr_plan.specs.Plan.{Plan}
use Rattle.scr_sequencer.specs.Sequence.{Sequence, begun}
use Rattle.scr_sequencer.specs.Answers.{Follows}
use Rattle.scr_sequencer.proofs.Following.{follows_none}
use Rattle.scr_feed.proofs.Feeds.{fresh}
use Rattle.scr_feed.proofs.feed.Feed.make.Goals as goal

pub invariant_of-feed : goal.invariant_of-feed
invariant_of-feed c =
    let plan : Plan = c.args.plan.now in
    let new : c.in_ok-sequencer.sequencer ≡ begun plan.cores plan.history =
    c.in_ok-sequencer.ensures ∙ (λ i. begun (c.cores.ensures.cores i) (c.history.ensures.history i)) in (
      fresh plan c.args.capacity c.in_ok-ends.ends.items c.in_ok-ends.receives.items (record { to_all = []; from = 0; frames = c.new.result.items })
          c.cores.ensures.ranges c.in_ok-ends.ensures refl c.new.ensures.items,
      (subst (Follows plan) (sym new) (follows_none plan c.cores.ensures.ranges), ap (λ (s : Sequence). s.taken) new),
      c.in_ok-fates.ensures.count,
      c.in_ok-fates.ensures.fates,
      c.in_ok-fates.ensures.near,
    )

pub returns-clause-feed : goal.returns-clause-feed
returns-clause-feed c = (invariant_of-feed c).0

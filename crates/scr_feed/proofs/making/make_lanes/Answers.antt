use Rattle.std.proofs.Common.{◌+◌, List, sym, subst}
use Rattle.scr_lane.specs.Messages.{Route}
use Rattle.scr_lane.specs.Ends.{End}
use Rattle.scr_feed.specs.Made.{AreLanes}
use Rattle.scr_feed.proofs.Made.{one_more}
use Rattle.scr_feed.proofs.making.make_lanes.Goals as goal

pub loop-core-preserved : goal.loop-core-preserved
loop-core-preserved c =
    subst (λ (z : List (End Route) × List (End Route)). AreLanes c.args.plan.now c.args.capacity (c.loop-core.core + 1) z.0 z.1)
    (λ i. (sym c.in_ok-push.ensures.items i, sym c.in_ok-push-2.ensures.items i))
    (one_more c.args.plan.now c.args.capacity c.loop-core.core c.loop-core.sends.items c.loop-core.receives.items c.in_ok-send.send c.in_ok-send.receive
    c.loop-core.invariant
    (record { one_lane = c.in_ok-send.ensures.one_lane; new_send = c.in_ok-send.ensures.send; new_receive = c.in_ok-send.ensures.receive }))

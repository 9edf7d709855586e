use Rattle.scr_feed.specs.Made.{AreLanes}
use Rattle.scr_feed.proofs.making.make_lanes.Given as goal

abbrev pub invariant-loop-core : goal.invariant-loop-core
invariant-loop-core l = AreLanes l.fn.plan l.fn.capacity l.core l.sends.items l.receives.items

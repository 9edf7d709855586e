use Rattle.scr_lane.proofs.sender.put.Goals as goal

pub try_push_as-requires-clause-rule : goal.try_push_as-requires-clause-rule
try_push_as-requires-clause-rule g c = rw (c.loop.invariant.0.1, c.loop.invariant.1, c.loop.invariant.2) c.requires.rule

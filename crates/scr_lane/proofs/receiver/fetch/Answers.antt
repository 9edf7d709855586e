use Rattle.scr_lane.proofs.receiver.fetch.Goals as goal

pub try_pop_as-requires-clause-rule : goal.try_pop_as-requires-clause-rule
try_pop_as-requires-clause-rule g c = rw (c.loop.invariant.0.1, c.loop.invariant.1) c.requires.rule

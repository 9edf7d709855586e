use Rattle.crossbeam_queue.specs.Passes.{view}
use Rattle.scr_lane.proofs.LaneSteps.{pops}
use Rattle.scr_lane.proofs.receiver.Receiver.pop.Goals as goal

pub fetch-item-requires-clause-rule : goal.fetch-item-requires-clause-rule
fetch-item-requires-clause-rule g c =
    let end = c.self.inside in
    rw c.self.invariant.1.0 (pops g.C.Course.total g.C.Course.fits g.C.Course.nothing end.pass.id (view end.pass).about end.capacity end.count)

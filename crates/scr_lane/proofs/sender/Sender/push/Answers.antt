use Rattle.std.proofs.Common.{◌≡◌, ap, ◌∙◌}
use Rattle.crossbeam_queue.specs.Passes.{view, ruled_capacity}
use Rattle.scr_lane.proofs.LaneSteps.{pushes}
use Rattle.scr_lane.proofs.sender.Sender.push.Goals as goal

pub put-requires-clause-rule : goal.put-requires-clause-rule
put-requires-clause-rule g c =
    let end = c.self.inside in
    let about : (view end.pass).about ≡ c.args.self.now.about = ap (λ e. e.about) c.self.view_is in
    let count : end.count ≡ c.args.self.now.count = ap (λ e. e.count) c.self.view_is in
    let it : g.C.Course.fits (view end.pass).about end.count c.args.item = rw (about, count) c.requires.next in
    let room : ruled_capacity c.deref.result.now.queue ≡ end.capacity = ap (λ line. ruled_capacity line.queue) c.deref.ensures ∙ c.self.invariant.2 in
    rw (room, c.self.invariant.1.0)
    (pushes g.C.Course.total g.C.Course.fits g.C.Course.nothing end.capacity end.pass.id (view end.pass).about end.count c.args.item it (g.C.Course.within _ _ _ it))

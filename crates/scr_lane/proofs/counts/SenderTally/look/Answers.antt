use Rattle.std.proofs.Common.{arith}
use Rattle.scr_lane.proofs.CountSteps.{look_taken}
use Rattle.scr_lane.proofs.counts.SenderTally.look.Goals as goal

pub load-requires : goal.load-requires
load-requires c =
    let words = c.args.counts.now.sized in
    let seat = c.args.self.now.seat in
    (c.requires.table, omega arith, look_taken _ seat.id seat.me.0 seat.me.1 c.args.self.now.sends)

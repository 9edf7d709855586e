use Rattle.std.proofs.Common.{arith}
use Rattle.scr_lane.proofs.CountSteps.{store_sent}
use Rattle.scr_lane.proofs.counts.SenderTally.store.Goals as goal

pub store-requires : goal.store-requires
store-requires g c =
    let words = c.args.counts.now.sized in
    let seat = c.args.self.now.seat in
    (c.requires.table, omega arith, store_sent _ seat.id _ seat.me.0 seat.me.1 c.args.self.now.sends c.requires.grows)

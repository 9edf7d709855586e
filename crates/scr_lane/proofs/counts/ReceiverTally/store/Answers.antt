use Rattle.std.proofs.Common.{arith}
use Rattle.scr_lane.proofs.CountSteps.{store_taken}
use Rattle.scr_lane.proofs.counts.ReceiverTally.store.Goals as goal

pub store-requires : goal.store-requires
store-requires g c =
    let words = c.args.counts.now.sized in
    let seat = c.args.self.now.seat in
    (c.requires.table, omega arith, store_taken _ seat.id _ seat.me.0 seat.me.1 c.args.self.now.takes c.requires.grows)

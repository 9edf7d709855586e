use Rattle.std.proofs.Common.{length, ap, sym, ◌∙◌}
use Rattle.scr_wire.proofs.RowsRead.{length-rows_in}
use Rattle.scr_wire.proofs.MessagesRead.{rows_of_message}
use Rattle.scr_wire.proofs.view.WireView.count.Goals as goal

pub returns : goal.returns
returns c =
    let v = c.self.inside in
    rw (← c.self.view_is) (sym (ap length (rows_of_message v.kind v.number v.count v.rows.now c.self.invariant.0) ∙ length-rows_in v.count v.rows.now))

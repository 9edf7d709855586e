use Rattle.std.proofs.Common.{◌≡◌, ℕ, ◌*◌, ◌<◌, length, Some, drop, ap, sym, ◌∙◌, arith}
use Rattle.scr_wire.specs.Spelling.{rows_of}
use Rattle.scr_wire.specs.Reading.{rows_in, row_in}
use Rattle.scr_wire.proofs.RowsRead.{length-rows_in, slice_get-rows_in}
use Rattle.scr_wire.proofs.MessagesRead.{rows_of_message}
use Rattle.scr_wire.proofs.view.WireView.row.Goals as goal

pub row_at-requires : goal.row_at-requires
row_at-requires c =
    let v = c.self.inside in
    let rows-are : rows_of c.args.self.now ≡ rows_in v.count v.rows.now = rw (← c.self.view_is) (rows_of_message v.kind v.number v.count v.rows.now c.self.invariant.0) in
    let within : c.args.i < v.count = omega (arith, ap length rows-are, length-rows_in v.count v.rows.now) in
    omega (arith, c.self.invariant.1)

pub returns : goal.returns
returns c =
    let v = c.self.inside in
    let rows-are : rows_of c.args.self.now ≡ rows_in v.count v.rows.now = rw (← c.self.view_is) (rows_of_message v.kind v.number v.count v.rows.now c.self.invariant.0) in
    let within : c.args.i < v.count = omega (arith, ap length rows-are, length-rows_in v.count v.rows.now) in
    let read : c.row_at.result ≡ row_in (drop (56 * c.args.i) v.rows.now) = c.row_at.ensures ∙ ap (λ (i : ℕ). row_in (drop (56 * i) v.rows.now)) c.from.ensures in
    rw rows-are (slice_get-rows_in v.count c.args.i v.rows.now within ∙ sym (ap Some read))

use Rattle.std.proofs.Common.{◌≡◌, ◌*◌, ◌++◌, take, drop, All}
use Rattle.scr_wire.specs.Spelling.{rows_bytes, IsRow}
use Rattle.scr_wire.proofs.writing.write_rows.Given as goal

abbrev pub invariant-loop-i : goal.invariant-loop-i
invariant-loop-i l = (l.out ≡ rows_bytes (take l.i l.rows) ++ drop (56 * l.i) l.initial.out) × All IsRow (take l.i l.rows)

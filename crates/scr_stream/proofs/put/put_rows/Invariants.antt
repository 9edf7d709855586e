use Rattle.std.proofs.Common.{◌≡◌, take}
use Rattle.std.specs.List.{flat_map}
use Rattle.scr_base.specs.Streams.{Passes}
use Rattle.scr_wire.specs.Spelling.{row_bytes}
use Rattle.scr_stream.proofs.put.put_rows.Given as goal

abbrev pub invariant-loop-row : goal.invariant-loop-row
invariant-loop-row g l = record {
  passed : Passes (g.O.Sink.written l.fn.out) (g.O.Sink.written l.out) l.fn.batch l.batch (flat_map row_bytes (take l.row-index l.rows));
  faults : g.O.Sink.faults l.out ≡ g.O.Sink.faults l.fn.out;
  wants : g.O.Sink.wants l.out ≡ g.O.Sink.wants l.fn.out;
}

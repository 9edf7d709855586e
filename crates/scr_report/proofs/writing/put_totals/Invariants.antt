use Rattle.std.proofs.Common.{◌≡◌, take}
use Rattle.std.specs.List.{flat_map, zip}
use Rattle.scr_base.specs.Streams.{Passes}
use Rattle.scr_report.specs.Text.{total_line}
use Rattle.scr_report.proofs.writing.put_totals.Given as goal

abbrev pub invariant-loop-place : goal.invariant-loop-place
invariant-loop-place g l = record {
  passed : Passes (g.O.Sink.written l.fn.out) (g.O.Sink.written l.out) l.fn.batch l.batch (flat_map total_line (take l.place (zip l.names l.totals)));
  faults : g.O.Sink.faults l.out ≡ g.O.Sink.faults l.fn.out;
  wants : g.O.Sink.wants l.out ≡ g.O.Sink.wants l.fn.out;
}

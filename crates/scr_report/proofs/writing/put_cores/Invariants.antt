use Rattle.std.proofs.Common.{◌≡◌, take}
use Rattle.std.specs.List.{flat_map, enumerate_from}
use Rattle.scr_base.specs.Streams.{Passes}
use Rattle.scr_report.specs.Text.{core_line}
use Rattle.scr_report.proofs.writing.put_cores.Given as goal

abbrev pub invariant-loop-core : goal.invariant-loop-core
invariant-loop-core g l = record {
  passed : Passes (g.O.Sink.written l.fn.out) (g.O.Sink.written l.out) l.fn.batch l.batch (flat_map core_line (take l.core (enumerate_from 0 l.cores)));
  faults : g.O.Sink.faults l.out ≡ g.O.Sink.faults l.fn.out;
  wants : g.O.Sink.wants l.out ≡ g.O.Sink.wants l.fn.out;
}

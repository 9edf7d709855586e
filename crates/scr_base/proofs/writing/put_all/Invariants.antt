use Rattle.std.proofs.Common.{◌≡◌, length, []}
use Rattle.scr_base.specs.Streams.{Passes}
use Rattle.scr_base.proofs.writing.put_all.Given as goal

abbrev pub invariant-loop-rest : goal.invariant-loop-rest
invariant-loop-rest g l = record {
  passed : Passes (g.O.Sink.written l.fn.out) (g.O.Sink.written l.out) [] l.rest l.piece;
  faults : g.O.Sink.faults l.out ≡ g.O.Sink.faults l.fn.out;
  wants : g.O.Sink.wants l.out ≡ g.O.Sink.wants l.fn.out;
}

abbrev pub decreases-loop-rest : goal.decreases-loop-rest
decreases-loop-rest g l = length l.rest

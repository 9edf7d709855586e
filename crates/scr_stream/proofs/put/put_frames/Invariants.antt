use Rattle.std.proofs.Common.{◌≡◌}
use Rattle.std.specs.List.{flat_map, range_with_len}
use Rattle.scr_base.specs.Streams.{Passes}
use Rattle.scr_stream.specs.Streamed.{frame_at}
use Rattle.scr_stream.proofs.put.put_frames.Given as goal

abbrev pub invariant-loop-i : goal.invariant-loop-i
invariant-loop-i g l = record {
  passed : Passes (g.O.Sink.written l.fn.out) (g.O.Sink.written l.out) l.fn.batch l.batch (flat_map (frame_at l.plan) (range_with_len 1 l.i));
  faults : g.O.Sink.faults l.out ≡ g.O.Sink.faults l.fn.out;
  wants : g.O.Sink.wants l.out ≡ g.O.Sink.wants l.fn.out;
}

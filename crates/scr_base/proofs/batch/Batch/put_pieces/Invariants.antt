use Rattle.std.proofs.Common.{◌≡◌, take}
use Rattle.std.specs.List.{flat_map}
use Rattle.scr_base.specs.Streams.{Passes}
use Rattle.scr_base.specs.Pieces.{text_of}
use Rattle.scr_base.proofs.batch.Batch.put_pieces.Given as goal

abbrev pub invariant-loop-piece : goal.invariant-loop-piece
invariant-loop-piece g l = record {
  passed : Passes (g.O.Sink.written l.fn.out) (g.O.Sink.written l.out) l.fn.self l.self (flat_map text_of (take l.piece-index l.pieces));
  faults : g.O.Sink.faults l.out ≡ g.O.Sink.faults l.fn.out;
  wants : g.O.Sink.wants l.out ≡ g.O.Sink.wants l.fn.out;
}

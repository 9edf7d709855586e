use Rattle.std.proofs.Common.{◌≡◌, length}
use Rattle.scr_stream.specs.Taken.{HasTaken}
use Rattle.scr_stream.proofs.WholeStream.{left_of}
use Rattle.scr_stream.proofs.read.read_stream.Given as goal

abbrev pub invariant-loop-more : goal.invariant-loop-more
invariant-loop-more g l = record {
  taken : HasTaken l.more l.history (g.S.Source.left l.initial.source) (g.S.Source.left l.source) l.taken.rows.items l.taken.missing.items l.taken.frames;
  counts : g.S.Source.faults l.source ≡ g.S.Source.faults l.initial.source;
}

abbrev pub decreases-loop-more : goal.decreases-loop-more
decreases-loop-more g l = left_of l.more (length l.taken.rows.items)

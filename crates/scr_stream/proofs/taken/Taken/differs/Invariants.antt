use Rattle.std.proofs.Common.{◌≡◌, ◌-◌, false}
use Rattle.std.specs.List.{list_any, range_with_len, slice_get}
use Rattle.scr_stream.specs.Frames.{frame_of, carried_row}
use Rattle.scr_stream.specs.Tests.{clash}
use Rattle.scr_stream.proofs.taken.Taken.differs.Given as goal

abbrev pub invariant-loop-p : goal.invariant-loop-p
invariant-loop-p l =
    list_any (λ p. clash (slice_get l.self.rows.items (p - 1)) (carried_row (frame_of l.frame) p)) (range_with_len l.first (l.p - l.first)) ≡ false

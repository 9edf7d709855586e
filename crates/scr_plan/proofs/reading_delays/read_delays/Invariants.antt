use Rattle.std.proofs.Common.{◌≡◌, ◌<◌, ℕ, length, take, map, Ok, slice_index_or}
use Rattle.scr_plan.specs.Spelling.{pieces_of, place_of}
use Rattle.scr_plan.specs.DelaySpelling.{named_frame, delay_read_at}
use Rattle.scr_plan.specs.declared.delays.FrameDelay.{FrameDelay}
use Rattle.scr_plan.proofs.reading_delays.read_delays.Given as goal

abbrev pub invariant-loop-piece : goal.invariant-loop-piece
invariant-loop-piece l = record {
  count : length l.delays.items ≡ length l.yielded;
  named : map (λ it. it.frame) l.delays.items ≡ map named_frame (take (length l.yielded) (pieces_of l.text));
  each : (i : ℕ) (d : FrameDelay) → i < length l.delays.items → delay_read_at l.text i ≡ Ok (slice_index_or l.delays.items i d);
  place : l.place ≡ place_of l.text (length l.yielded);
}

use Rattle.std.proofs.Common.{◌≡◌, ◌-◌, ◌++◌}
use Rattle.std.specs.Prelude.{map, unwrap_or}
use Rattle.std.specs.List.{range_with_len}
use Rattle.scr_stream.specs.Frames.{frame_of, carried_row}
use Rattle.scr_stream.specs.Reading.{no_row}
use Rattle.scr_stream.proofs.taken.Taken.add_rows.Given as goal

abbrev pub invariant-loop-p : goal.invariant-loop-p
invariant-loop-p l = record {
  rows : l.self.rows.items ≡ l.fn.self.rows.items ++ map (λ p. unwrap_or (carried_row (frame_of l.frame) p) no_row) (range_with_len l.first (l.p - l.first));
  missing : l.self.missing.items ≡ l.fn.self.missing.items ++ range_with_len l.first (l.p - l.first);
  frames : l.self.frames ≡ l.fn.self.frames;
}

use Rattle.std.proofs.Common.{◌≡◌, ◌-◌, ◌++◌}
use Rattle.std.specs.Prelude.{map}
use Rattle.std.specs.List.{range_with_len}
use Rattle.scr_stream.specs.Reading.{no_row}
use Rattle.scr_stream.proofs.taken.Taken.pass_to.Given as goal

abbrev pub invariant-loop-p : goal.invariant-loop-p
invariant-loop-p l = record {
  rows : l.self.rows.items ≡ l.fn.self.rows.items ++ map (λ p. no_row) (range_with_len l.first (l.p - l.first));
  missing : l.self.missing.items ≡ l.fn.self.missing.items ++ range_with_len l.first (l.p - l.first);
}

use Rattle.std.proofs.Common.{◌≡◌, ◌≢◌, ℕ, ◌<◌, false, ◌==◌}
use Rattle.std.specs.List.{list_any}
use Rattle.scr_report.specs.Text.{name_at}
use Rattle.scr_report.proofs.laws.are_plain.Given as goal

abbrev pub invariant-loop-later : goal.invariant-loop-later
invariant-loop-later l = record {
  differ : (k : ℕ) → k < l.later → (i : ℕ) → i < k → name_at l.names i ≢ name_at l.names k;
  no_feeds : (k : ℕ) → k < l.later → list_any (λ byte. byte == 10) (name_at l.names k) ≡ false;
}

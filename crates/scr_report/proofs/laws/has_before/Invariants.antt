use Rattle.std.proofs.Common.{◌≢◌, ℕ, ◌<◌}
use Rattle.scr_report.specs.Text.{name_at}
use Rattle.scr_report.proofs.laws.has_before.Given as goal

abbrev pub invariant-loop-earlier : goal.invariant-loop-earlier
invariant-loop-earlier l = (k : ℕ) → k < l.earlier → name_at l.names k ≢ name_at l.names l.later

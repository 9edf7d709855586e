use Rattle.std.proofs.Common.{◌≢◌, ℕ, ◌<◌, [], map, get_or}
use Rattle.std.specs.String.{string_bytes}
use Rattle.scr_report.specs.declared.names.Name.{Name}
use Rattle.scr_report.proofs.names.Names.verdict.Given as goal

abbrev pub invariant-loop-place : goal.invariant-loop-place
invariant-loop-place l = (k : ℕ) → k < l.place → get_or (map (λ (name : Name). string_bytes name.text) l.name-items) k [] ≢ l.text

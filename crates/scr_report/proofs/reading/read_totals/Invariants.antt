use Rattle.std.proofs.Common.{◌≡◌, ◌<◌, ◌^◌, All, length, map}
use Rattle.std.specs.List.{zip}
use Rattle.scr_report.specs.Text.{total_line}
use Rattle.scr_report.specs.Parts.{GoesPast}
use Rattle.scr_report.proofs.reading.read_totals.Given as goal

abbrev pub invariant-loop-place : goal.invariant-loop-place
invariant-loop-place l = record {
  count : length l.totals.items ≡ l.place;
  each : All (λ total. total < 2 ^ 64) l.totals.items;
  past : GoesPast l.fn.lines l.lines (map total_line (zip l.names l.totals.items));
}

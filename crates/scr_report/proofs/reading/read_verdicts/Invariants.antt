use Rattle.std.proofs.Common.{◌≡◌, length, map}
use Rattle.scr_report.specs.Text.{verdict_line}
use Rattle.scr_report.specs.Grammar.{FollowOn}
use Rattle.scr_report.specs.Parts.{GoesPast, last_number}
use Rattle.scr_report.proofs.reading.read_verdicts.Given as goal

abbrev pub invariant-loop-given : goal.invariant-loop-given
invariant-loop-given l = record {
  follow : FollowOn l.names 0 l.verdicts.items;
  last : l.last ≡ last_number 0 l.verdicts.items;
  past : GoesPast l.fn.lines l.lines (map (verdict_line l.names) l.verdicts.items);
}

abbrev pub decreases-loop-given : goal.decreases-loop-given
decreases-loop-given l = length l.lines.text

use Rattle.std.proofs.Common.{map}
use Rattle.scr_report.specs.Text.{verdict_line}
use Rattle.scr_report.specs.Outcome.{counter_lines}
use Rattle.scr_report.proofs.Written.{concat-append}
use Rattle.scr_report.proofs.laws.verdicts_then_rest.Goals as goal

pub returns : goal.returns
returns c = λ names outcome. concat-append (map (verdict_line names) outcome.verdicts) (counter_lines names outcome)

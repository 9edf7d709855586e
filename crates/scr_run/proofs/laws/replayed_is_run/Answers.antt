use Rattle.std.proofs.Common.{ap}
use Rattle.scr_report.specs.Outcome.{Outcome, report_text}
use Rattle.scr_stream.proofs.WrittenRead.{reads-back}
use Rattle.scr_run.proofs.SameOutcome.{outcome-same}
use Rattle.scr_run.proofs.laws.replayed_is_run.Goals as goal

pub returns : goal.returns
returns c = λ rules code plan is fits.
    let back = reads-back plan is code fits in
    (back.0, back.1, λ with_verdicts. ap (λ (o : Outcome). report_text rules.names o with_verdicts) (outcome-same plan back.0 back.2 rules))

use Rattle.std.proofs.Common.{◌∷◌, [], refl, arith, codes}
use Rattle.scr_report.proofs.LineKinds.{behind-number}
use Rattle.scr_report.proofs.line.flows_in.Goals as goal

pub returns-then-not-ends : goal.returns-then-not-ends
returns-then-not-ends c = λ flows fits same.
    c.if-not-ends.ensures
    (behind-number (codes "flows ") _ c.args.line.now _ (10 ∷ []) _ flows (omega arith) c.in_ok-flows.ensures (omega arith) refl same).1

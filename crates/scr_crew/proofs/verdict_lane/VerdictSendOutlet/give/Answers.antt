use Rattle.std.proofs.Common.{◌≡◌, ◌∷◌, List, sym, subst}
use Rattle.scr_plan.specs.declared.given.Given.{Given}
use Rattle.scr_lane.specs.Ends.{End}
use Rattle.scr_crew.specs.Verdicts.{IsToGet}
use Rattle.scr_crew.proofs.Courses.{offered}
use Rattle.scr_crew.proofs.verdict_lane.VerdictSendOutlet.give.Goals as goal

pub returns : goal.returns
returns g c =
    λ whole rest is.
    let same : c.args.self.now ≡ c.self.inside.end = sym c.self.view_is in
    offered c.self.inside.end c.offer.new.end whole rest c.args.given c.offer.result c.is_ok.result c.is_ok.ensures.value c.offer.ensures.sent c.offer.ensures.full
    (subst (λ (end : End (List Given)). IsToGet end whole (c.args.given ∷ rest)) same is)

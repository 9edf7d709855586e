use Rattle.std.proofs.Common.{◌≡◌, sym, ap, ◌∙◌, subst}
use Rattle.scr_plan.specs.Plan.{Plan}
use Rattle.scr_lane.specs.Messages.{route}
use Rattle.scr_log.specs.Passes.{LogsOf}
use Rattle.scr_crew.specs.Workers.{IsNewEnd}
use Rattle.scr_crew.proofs.Coming.{Coming, all_coming, first_comes}
use Rattle.scr_crew.proofs.NewEnds.{new_ends}
use Rattle.scr_crew.proofs.tests.leaving.verdicts_of.Goals as goal

pub run_core-requires-clause-begin : goal.run_core-requires-clause-begin
run_core-requires-clause-begin g c κs within =
    let plan : Plan = c.args.plan.now in
    let all = all_coming (IsNewEnd plan) plan.cores c.in_ok-feed.ends.items (new_ends plan _ _ _ c.in_ok-feed.ensures.ends) in
    let new : IsNewEnd plan 0 c.in-Some.lane =
    first_comes (IsNewEnd plan) 0 plan.cores c.in-Some.lane _ (subst (Coming (IsNewEnd plan) 0 plan.cores) (sym c.into_iter.ensures.rest ∙ c.in-Some.ensures.items) all) in
    let its = c.in-Some-claim.ensures in
    let planned : plan ≡ c.in-Some-claim.pass.logs.plan = sym c.in_ok-logs.ensures.plan ∙ ap (λ (l : LogsOf). l.plan) (sym its.logs) in
    record {
      its_lane = new.about ∙ (λ i. route (planned i) (sym its.core i));
      untaken = new.untaken;
      unpublished = its.unpublished;
      unfinished = its.unfinished;
    }

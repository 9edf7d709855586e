use Rattle.std.proofs.Common.{List, ◌++◌, sym, ap}
use Rattle.scr_base.specs.declared.row.Row.{Row}
use Rattle.scr_base.specs.declared.row.Verdict.{Verdict}
use Rattle.scr_plan.specs.declared.given.Given.{Given}
use Rattle.scr_plan.specs.Plan.{Plan}
use Rattle.scr_replica.specs.OneCore.{verdicts}
use Rattle.scr_crew.proofs.Handing.{begins}
use Rattle.scr_crew.proofs.NewEnds.{new_ends}
use Rattle.scr_crew.proofs.tests.refusing.without_the_last.Goals as goal

pub claim_all-requires-clause-ends : goal.claim_all-requires-clause-ends
claim_all-requires-clause-ends g c κs within = new_ends c.args.plan.now _ _ _ c.in_ok-feed.ensures.ends

pub run_crew-requires-clause-taking : goal.run_crew-requires-clause-taking
run_crew-requires-clause-taking g c κs within =
    let verdict_after : List Row → Row → Verdict = g.P.Program.verdict_after c.args.settings.now in
    let plan : Plan = c.args.plan.now in
    let all : List Given = verdicts verdict_after plan in
    let there = rw c.in-Some.is at c.in_ok-crew.ensures.verdicts in
    begins _ verdict_after plan _ _ c.in_ok-taking.taking c.new.result (c.in_ok-taking.ensures.coming verdict_after plan there) c.in_ok-taking.ensures.next
    (sym (ap (λ (list : List Given). list ++ all) c.new.ensures.items))

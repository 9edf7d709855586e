use Rattle.std.proofs.Common.{List}
use Rattle.std.proofs.lemmas.Result.{err_from_is_err_and}
use Rattle.scr_base.specs.declared.row.Row.{Row}
use Rattle.scr_base.specs.declared.row.Verdict.{Verdict}
use Rattle.scr_plan.specs.declared.given.Given.{Given}
use Rattle.scr_plan.specs.Plan.{Plan}
use Rattle.scr_replica.specs.OneCore.{verdicts}
use Rattle.scr_crew.proofs.Handing.{begins}
use Rattle.scr_crew.proofs.NewEnds.{new_ends}
use Rattle.scr_crew.proofs.crew.run_claimed.Goals as goal

pub claim_all-requires-clause-ends : goal.claim_all-requires-clause-ends
claim_all-requires-clause-ends g c κs within = new_ends c.args.plan.now _ _ _ c.in_ok-feed.ensures.ends

pub returns-in_err-crew-clause-taken : goal.returns-in_err-crew-clause-taken
returns-in_err-crew-clause-taken g c =
    let all : List Given = verdicts (g.P.Program.verdict_after c.args.settings.now) c.args.plan.now in
    let told = err_from_is_err_and c.from_residual-in_err-crew.result c.from_residual-in_err-crew.ensures.1 in
    rw (told.1, told.2)
    (record { each = g.T.Taker.may_lack c.args.taker c.args.out.now c.args.out.now all all c.in_err-crew.field-0.0 c.requires.begin })

pub returns-in_err-taking-clause-taken : goal.returns-in_err-taking-clause-taken
returns-in_err-taking-clause-taken g c =
    let all : List Given = verdicts (g.P.Program.verdict_after c.args.settings.now) c.args.plan.now in
    let told = err_from_is_err_and c.from_residual-in_err-taking.result c.from_residual-in_err-taking.ensures.1 in
    rw (told.1, told.2)
    (record { each = g.T.Taker.may_lack c.args.taker c.args.out.now c.args.out.now all all c.in_err-taking.field-0.0 c.requires.begin })

pub run_crew-requires-clause-taking : goal.run_crew-requires-clause-taking
run_crew-requires-clause-taking g c κs within =
    let verdict_after : List Row → Row → Verdict = g.P.Program.verdict_after c.args.settings.now in
    let plan : Plan = c.args.plan.now in
    let there = rw c.in-Some.is at c.in_ok-crew.ensures.verdicts in
    begins g.T.Taker.IsToTake verdict_after plan c.args.out.now c.args.out.now c.in_ok-taking.taking c.args.taker
    (c.in_ok-taking.ensures.coming verdict_after plan there) c.in_ok-taking.ensures.next c.requires.begin

use Rattle.std.proofs.Common.{List}
use Rattle.std.proofs.lemmas.Result.{err_from_is_err_and}
use Rattle.scr_base.specs.declared.row.Row.{Row}
use Rattle.scr_base.specs.declared.row.Verdict.{Verdict}
use Rattle.scr_replica.specs.OneCore.{verdicts}
use Rattle.scr_crew.specs.Takings.{verdicts_from}
use Rattle.scr_crew.proofs.crew.lead_crew.Goals as goal

pub returns-in_err-started-clause-taken : goal.returns-in_err-started-clause-taken
returns-in_err-started-clause-taken g c =
    let verdict_after : List Row → Row → Verdict = g.P.Program.verdict_after c.args.settings.now in
    let told = err_from_is_err_and c.from_residual.result c.from_residual.ensures.1 in
    rw (told.1, told.2)
    (record {
      each = g.T.Taker.may_lack c.args.taker c.args.out.now c.args.out.now (verdicts verdict_after c.args.plan.now)
          (verdicts_from verdict_after c.args.plan.now c.args.caller.taking.next) c.in_err-started.field-0.0 c.requires.taking.to_take;
    })

use Rattle.std.proofs.Common.{ℕ, List, length, arith}
use Rattle.scr_base.specs.declared.row.Row.{Row}
use Rattle.scr_base.specs.declared.row.Verdict.{Verdict}
use Rattle.scr_plan.specs.Plan.{Plan}
use Rattle.scr_replica.specs.OneCore.{verdicts}
use Rattle.scr_replica.proofs.Counted.{verdicts-named}
use Rattle.scr_crew.proofs.Courses.{few_verdicts-all}
use Rattle.scr_crew.proofs.Writing.{writes-none}
use Rattle.scr_crew.proofs.streamed.run_streamed.Goals as goal

pub run_taken-requires-clause-begin : goal.run_taken-requires-clause-begin
run_taken-requires-clause-begin g c κs within =
    let verdict_after : List Row → Row → Verdict = g.P.Program.verdict_after c.args.settings.now in
    let plan : Plan = c.args.plan.now in
    let names : List (List ℕ) = g.P.Program.verdict_names in
    let laws = g.met.P.Program g.world.𝓛 g.world.𝓜 g.world.𝓡 ((λ s x. x), (λ x. x), (λ x. x), λ x. x) in
    let few_rows = c.rows-rows.ensures.ranges.few_rows in
    let lines = c.in_ok-lines.ensures in
    writes-none g.O.Sink.written g.O.Sink.faults g.O.Sink.wants names c.in_ok-lines.lines c.args.out.now (verdicts verdict_after plan)
    (omega (arith, few_verdicts-all verdict_after plan, few_rows)) (verdicts-named verdict_after plan (length names) (laws.is_named c.args.settings.now))
    lines.batch lines.taken lines.totals

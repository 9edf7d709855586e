use Rattle.std.proofs.Common.{◌≡◌, ◌<◌, Bool, List, All, length, ap, ◌∙◌, sym, subst, refl}
use Rattle.scr_plan.specs.declared.given.Given.{Given}
use Rattle.scr_plan.specs.Plan.{frame_count}
use Rattle.scr_plan.specs.Counts.{delivered_count, kept_count}
use Rattle.scr_replica.proofs.Counted.{length-verdicts-delivered, verdicts-named}
use Rattle.scr_report.specs.Outcome.{Outcome, report_of, report_text, totals_of}
use Rattle.scr_run.specs.Rules.{Rules, ruled_by}
use Rattle.scr_run.specs.RunReport.{outcome_of, plan_text}
use Rattle.scr_run.specs.Ends.{ended}
use Rattle.scr_run.proofs.Ending.{Ends-of_text}
use Rattle.scr_run.proofs.planned.write_plan.Goals as goal

pub report_on-requires-clause-delivered : goal.report_on-requires-clause-delivered
report_on-requires-clause-delivered g c κs within =
    ap length c.in_ok-gathered.ensures.verdicts ∙ length-verdicts-delivered (g.P.Program.verdict_after c.args.settings.now) c.args.plan.now

pub write_found-requires-clause-named : goal.write_found-requires-clause-named
write_found-requires-clause-named g c κs within =
    let names = length g.P.Program.verdict_names in
    let laws = g.met.P.Program g.world.𝓛 g.world.𝓜 g.world.𝓡 ((λ s x. x), (λ x. x), (λ x. x), λ x. x) in
    subst (λ (given : List Given). All (λ given. given.verdict.0 < names) given)
    (sym (ap (λ (o : Outcome). o.verdicts) c.in_ok-report.ensures ∙ c.in_ok-gathered.ensures.verdicts))
    (verdicts-named (g.P.Program.verdict_after c.args.settings.now) c.args.plan.now names (laws.is_named c.args.settings.now))

pub write_found-requires-clause-counted : goal.write_found-requires-clause-counted
write_found-requires-clause-counted g c κs within =
    let names = g.P.Program.verdict_names in
    subst (λ (o : Outcome). o.totals ≡ totals_of names o.verdicts) (sym c.in_ok-report.ensures) refl

pub returns-then-with_verdicts : goal.returns-then-with_verdicts
returns-then-with_verdicts g c =
    let settings = c.args.settings.now in
    let rules : Rules = ruled_by (g.P.Program.row_of settings) (g.P.Program.verdict_after settings) (g.P.Program.count_after settings) g.P.Program.verdict_names in
    let is = ap (λ (with_verdicts : Bool). plan_text rules with_verdicts c.args.plan.now) (sym c.if-with_verdicts.true) in
    record { ends = Ends-of_text g.O.Sink.written g.O.Sink.faults g.O.Sink.wants _ _ _ _ (ended c.write_streamed.result) is c.write_streamed.ensures.ends }

pub returns : goal.returns
returns g c =
    let settings = c.args.settings.now in
    let names = g.P.Program.verdict_names in
    let rules : Rules = ruled_by (g.P.Program.row_of settings) (g.P.Program.verdict_after settings) (g.P.Program.count_after settings) names in
    let plan = c.args.plan.now in
    let found = c.in_ok-gathered.ensures in
    let outcome : c.in_ok-report.report ≡ outcome_of rules plan =
    c.in_ok-report.ensures ∙ (λ i. report_of names (found.verdicts i) (frame_count plan) (delivered_count plan) (kept_count plan) (found.cores i) (found.flows i)) in
    let is = ap (λ (o : Outcome). report_text names o c.args.manner.with_verdicts) outcome in
    record { ends = Ends-of_text g.O.Sink.written g.O.Sink.faults g.O.Sink.wants _ _ _ _ (ended c.write_found.result) is c.write_found.ensures.ends }

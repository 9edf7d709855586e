use Rattle.std.proofs.Common.{◌≡◌, ◌≤◌, map, arith, ap, ◌∙◌}
use Rattle.std.specs.List.{range_with_len}
use Rattle.scr_plan.specs.Counts.{plan_counts}
use Rattle.scr_replica.specs.Answers.{CoreAnswer}
use Rattle.scr_replica.specs.OneCore.{verdicts, entries}
use Rattle.scr_replica.proofs.InOrder.{courses_of, counts_of, flows_of}
use Rattle.scr_replica.proofs.merging.gather.Goals as goal

pub returns : goal.returns
returns c =
    λ verdict_after count_after are.
    let plan = c.args.plan.now in
    let results = c.args.results.now in
    let some : 1 ≤ plan.cores = omega (arith, c.requires.count, c.requires.some) in
    let all : c.in_ok-verdicts.verdicts.items ≡ verdicts verdict_after plan =
    c.in_ok-verdicts.ensures verdict_after (courses_of verdict_after count_after plan results are) in
    let counts : c.in_ok-cores.cores.items ≡ map (plan_counts plan) (range_with_len 0 plan.cores) =
    c.in_ok-cores.ensures ∙ counts_of verdict_after count_after plan results are in
    let flows : c.first.inside.flows ≡ entries count_after plan =
    ap (λ (it : CoreAnswer). it.flows) (c.first.view_is ∙ c.index-results-0.is)
    ∙ flows_of verdict_after count_after plan results c.index-results-0.result are some in
    λ i. record { verdicts = all i; cores = counts i; flows = flows i }

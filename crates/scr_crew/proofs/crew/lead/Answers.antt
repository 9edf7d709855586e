use Rattle.std.proofs.Common.{◌≡◌, ◌≤◌, ℕ, Bool, true, List, Result, IfOk, length, subst, arith}
use Rattle.std.proofs.lemmas.Result.{err_from_is_err_and}
use Rattle.scr_base.specs.declared.row.Row.{Row}
use Rattle.scr_base.specs.declared.row.Verdict.{Verdict}
use Rattle.scr_plan.specs.Plan.{Plan}
use Rattle.scr_replica.specs.OneCore.{verdicts}
use Rattle.scr_crew.specs.Answers.{IsAnswer}
use Rattle.scr_crew.specs.Cores.{OfCores}
use Rattle.scr_crew.specs.declared.run_stop.RunStop.{RunStop}
use Rattle.scr_crew.proofs.Handing.{on_some, tallied, went-on}
use Rattle.scr_crew.proofs.crew.lead.Goals as goal

pub returns-in_err-answers-clause-taken : goal.returns-in_err-answers-clause-taken
returns-in_err-answers-clause-taken g c =
    let verdict_after : List Row → Row → Verdict = g.P.Program.verdict_after c.args.settings.now in
    let hand = went-on c.take_all-taken.result c.in_ok-through.through c.in_ok-through.was (c.take_all-taken.ensures.taken verdict_after c.args.out.now c.requires.taking) in
    let told = err_from_is_err_and c.from_residual-in_err-answers.result c.from_residual-in_err-answers.ensures.1 in
    rw (told.1, told.2)
    (record { each = g.T.Taker.may_lack c.take_all-taken.new.taker c.args.out.now c.take_all-taken.new.out (verdicts verdict_after c.args.plan.now) hand.0 c.in_err-answers.field-0.0 hand.1 })

pub returns-in_err-tallies-clause-taken : goal.returns-in_err-tallies-clause-taken
returns-in_err-tallies-clause-taken g c =
    let verdict_after : List Row → Row → Verdict = g.P.Program.verdict_after c.args.settings.now in
    let hand = went-on c.take_all-taken.result c.in_ok-through.through c.in_ok-through.was (c.take_all-taken.ensures.taken verdict_after c.args.out.now c.requires.taking) in
    let told = err_from_is_err_and c.from_residual-in_err-tallies.result c.from_residual-in_err-tallies.ensures.1 in
    rw (told.1, told.2)
    (record { each = g.T.Taker.may_lack c.take_all-taken.new.taker c.args.out.now c.take_all-taken.new.out (verdicts verdict_after c.args.plan.now) hand.0 c.in_err-tallies.field-0.0 hand.1 })

pub returns-then-through-clause-tally : goal.returns-then-through-clause-tally
returns-then-through-clause-tally g c =
    let count_after : List Row → ℕ = g.P.Program.count_after c.args.settings.now in
    let plan : Plan = c.args.plan.now in
    let S : Result Bool RunStop → Type 0 = λ r. IfOk r (λ b. b ≡ true → (c.len.result ≡ plan.cores) × (1 ≤ plan.cores)) in
    let all : (c.len.result ≡ plan.cores) × (1 ≤ plan.cores) = subst S c.in_ok-through.was c.take_all-taken.ensures.started c.if-through.true in
    let long : length c.args.started.items ≡ plan.cores = omega (arith, c.len.ensures, all.0) in
    let of : OfCores (IsAnswer count_after plan) plan.cores c.in_ok-answers.answers.items =
    subst (λ (k : ℕ). OfCores (IsAnswer count_after plan) k c.in_ok-answers.answers.items) long c.in_ok-answers.ensures in
    tallied count_after plan c.in_ok-tallies.tallies (c.in_ok-tallies.ensures count_after plan all.1 of)

pub returns-then-through-clause-taken : goal.returns-then-through-clause-taken
returns-then-through-clause-taken g c =
    let verdict_after : List Row → Row → Verdict = g.P.Program.verdict_after c.args.settings.now in
    let hand = went-on c.take_all-taken.result c.in_ok-through.through c.in_ok-through.was (c.take_all-taken.ensures.taken verdict_after c.args.out.now c.requires.taking) in
    record { each = (hand.0, hand.1, on_some c.in_ok-tallies.tallies (hand.2 c.if-through.true)) }

pub returns-clause-taken : goal.returns-clause-taken
returns-clause-taken g c =
    let verdict_after : List Row → Row → Verdict = g.P.Program.verdict_after c.args.settings.now in
    let hand = went-on c.take_all-taken.result c.in_ok-through.through c.in_ok-through.was (c.take_all-taken.ensures.taken verdict_after c.args.out.now c.requires.taking) in
    record { each = (hand.0, hand.1, tt) }

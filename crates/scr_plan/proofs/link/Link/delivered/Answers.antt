use Rattle.std.proofs.Common.{◌≡◌, ◌≤◌, ◌+◌, ℕ, true, sym, subst, ◌∙◌, arith, eqb}
use Rattle.std.proofs.lemmas.Bool.Decides.{nat_tests}
use Rattle.scr_plan.specs.Delays.{greatest_delay}
use Rattle.scr_plan.specs.Link.{delays_by}
use Rattle.scr_plan.proofs.Judged.{late-some, late-none, turned, judged-lost, judged-prompt, judged-ahead, judged-behind}
use Rattle.scr_plan.proofs.link.Link.delivered.Goals as goal

pub returns-in-None : goal.returns-in-None
returns-in-None c plan parts =
    let lost = late-none _ _ _ c.lateness.ensures.answer c.in-None.is in
    sym (judged-lost plan c.args.self.now c.args.k c.args.t c.args.n parts lost)

pub returns-then-delay-eq0 : goal.returns-then-delay-eq0
returns-then-delay-eq0 c plan parts =
    let is = late-some _ _ _ _ c.lateness.ensures.answer c.in-Some.is in
    let zero : eqb c.in-Some.delay 0 ≡ true = grind (arith, nat_tests) in
    let prompt : delays_by c.args.self.now c.args.n ≡ 0 = grind (arith, nat_tests) in
    zero ∙ sym (judged-prompt plan c.args.self.now c.args.k c.args.t c.args.n parts c.requires.a_frame c.requires.of_the_run is.0 (omega (arith, prompt)) prompt)

pub returns-else-delay-eq0 : goal.returns-else-delay-eq0
returns-else-delay-eq0 c plan parts =
    let is = late-some _ _ _ _ c.lateness.ensures.answer c.in-Some.is in
    let late : 1 ≤ c.in-Some.delay = grind (arith, nat_tests) in
    let near : delays_by c.args.self.now c.args.n ≤ greatest_delay = subst (λ (d : ℕ). d ≤ greatest_delay) is.1 c.in-Some.ensures.near in
    let same = is.1 in
    turned _ _
    (λ yes. judged-behind plan c.args.self.now c.args.k c.args.t c.args.n parts c.requires.a_frame c.requires.of_the_run is.0 near
    (c.args.n + c.in-Some.delay) (omega arith) (omega arith) (c.is_overtaken.ensures.overtaken plan parts yes))
    (λ no. judged-ahead plan c.args.self.now c.args.k c.args.t c.args.n parts c.requires.a_frame c.requires.of_the_run is.0 near
    (c.args.n + c.in-Some.delay) (omega arith) (omega arith) (c.is_overtaken.ensures.in_time plan parts no))

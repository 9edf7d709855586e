use Rattle.std.proofs.Common.{◌≡◌, true, sym, ◌∙◌, arith, eqb}
use Rattle.std.proofs.lemmas.Bool.Decides.{nat_tests}
use Rattle.scr_plan.specs.Link.{delay_in}
use Rattle.scr_stream.proofs.Prompt.{lost-undelivered, prompt-delivered}
use Rattle.scr_stream.proofs.put.is_delivered.Goals as goal

pub returns-in-Lost : goal.returns-in-Lost
returns-in-Lost c = sym (lost-undelivered c.args.plan.now c.args.n (sym c.in-Lost.is ∙ c.requires.fate))

pub returns-then-delay-eq0 : goal.returns-then-delay-eq0
returns-then-delay-eq0 c =
    let zero : eqb c.delay.result 0 ≡ true = grind (arith, nat_tests) in
    let none : delay_in c.args.fate ≡ 0 = grind (arith, nat_tests, c.delay.ensures) in
    zero ∙ sym (prompt-delivered c.args.plan.now c.args.n c.args.fate c.requires.a_frame c.requires.of_the_run c.requires.fate c.in_default.not-Lost none)

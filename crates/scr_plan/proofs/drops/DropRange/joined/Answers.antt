use Rattle.std.proofs.Common.{◌≡◌, true, max, ap, ◌∙◌, arith}
use Rattle.std.proofs.lemmas.Bool.Decides.{nat_tests}
use Rattle.scr_plan.specs.Drops.{range_has}
use Rattle.scr_plan.proofs.Joining.{joined, up_to}
use Rattle.scr_plan.proofs.drops.DropRange.joined.Goals as goal

pub returns-clause-numbers : goal.returns-clause-numbers
returns-clause-numbers c n =
    let a = c.args.self.now in
    let b = c.args.other.now in
    let same : a.step ≡ b.step = grind (arith, nat_tests) in
    let begins : range_has a b.first ≡ true = grind (arith, nat_tests) in
    let last : c.max.result ≡ max a.last b.last = omega (arith, c.max.ensures) in
    ap (λ last. range_has (up_to a last) n) last ∙ joined a b c.requires.own c.requires.other same begins n

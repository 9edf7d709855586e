-- What a range has, as a test and as a fact.
use Rattle.std.proofs.Common.{◌≡◌, ℕ, ◌-◌, ◌*◌, ◌/◌, ◌%◌, ◌≤◌, true, arith, ap, ◌∙◌}
use Rattle.std.specs.Bool.{Decides}
use Rattle.std.proofs.Math.Nat.{mul-mod_left}
use Rattle.std.proofs.lemmas.Bool.Decides.{nat_tests}
use Rattle.scr_plan.specs.Drops.{IsOfRange, range_has}
use Rattle.scr_plan.specs.declared.drops.DropRange.{DropRange}

from-test : (range : DropRange) (n : ℕ) → 1 ≤ range.step → range_has range n ≡ true → IsOfRange range n
from-test range n some has =
    let from : range.first ≤ n = grind (arith, nat_tests) in
    let to : n ≤ range.last = grind (arith, nat_tests) in
    let whole : (n - range.first) % range.step ≡ 0 = grind (arith, nat_tests) in
    ((n - range.first) / range.step, grind arith, to)

to-test : (range : DropRange) (n : ℕ) → 1 ≤ range.step → IsOfRange range n → range_has range n ≡ true
to-test range n some is =
    let rest : n - range.first ≡ is.0 * range.step = omega (arith, is.1) in
    let whole : (n - range.first) % range.step ≡ 0 = ap (λ (x : ℕ). x % range.step) rest ∙ mul-mod_left is.0 range.step in
    let from : range.first ≤ n = omega (arith, is.1) in
    let to : n ≤ range.last = is.2 in
    grind (arith, nat_tests)

pub Decides-range_has : (range : DropRange) (n : ℕ) → 1 ≤ range.step → Decides (range_has range n) (IsOfRange range n)
Decides-range_has range n some = (from-test range n some, to-test range n some)

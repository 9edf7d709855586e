use Rattle.std.proofs.Common.{◌≡◌, ◌<◌, ◌+◌, ◌-◌, ◌*◌, ◌/◌, ◌%◌, ℕ, true, arith}
use Rattle.std.proofs.lemmas.Bool.Decides.{nat_tests}
use Rattle.scr_plan.specs.Order.{has_beacon}
use Rattle.scr_plan.proofs.link.Link.is_overtaken.Goals as goal

pub returns-then-last-n-clause-overtaken : goal.returns-then-last-n-clause-overtaken
returns-then-last-n-clause-overtaken c plan parts e ahead =
    let at : ℕ = (c.min-last.result - 1) / 256 * 256 + 1 in
    let frames = parts.frames_are in
    let multiple : (at - 1) % 256 ≡ 0 = omega arith in
    let above : c.args.n < at = grind (arith, nat_tests) in
    let one = c.requires.a_frame in
    let has : has_beacon at ≡ true = grind (arith, nat_tests) in
    let le = ahead.beacons at has (omega arith) (omega arith) in
    omega arith

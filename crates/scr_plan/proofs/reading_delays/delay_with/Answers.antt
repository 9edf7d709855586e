use Rattle.std.proofs.Common.{◌≡◌, true, false, length, map, refl, sym, ◌∙◌, arith, leb}
use Rattle.std.proofs.lemmas.Bool.Decides.{nat_tests}
use Rattle.std.proofs.lemmas.List.{length-map}
use Rattle.scr_plan.specs.Drops.{most_ranges}
use Rattle.scr_plan.specs.DelaySpelling.{has_zero, has_large}
use Rattle.scr_plan.specs.declared.delays.FrameDelay.{FrameDelay}
use Rattle.scr_plan.proofs.FrameDelays.{named_frames}
use Rattle.scr_plan.proofs.reading_delays.delay_with.Goals as goal

pub returns-then-names : goal.returns-then-names
returns-then-names c =
    let some : has_zero c.args.frame c.args.steps ≡ false = grind (arith, nat_tests) in
    let small : has_large c.args.frame c.args.steps ≡ false = grind (arith, nat_tests) in
    let named = named_frames c.args.before.now c.args.frame ∙ sym c.names.ensures ∙ c.if-names.true in
    rw (some, small, named) refl

pub returns-then-before-ge-MOST : goal.returns-then-before-ge-MOST
returns-then-before-ge-MOST c =
    let some : has_zero c.args.frame c.args.steps ≡ false = grind (arith, nat_tests) in
    let small : has_large c.args.frame c.args.steps ≡ false = grind (arith, nat_tests) in
    let fresh = named_frames c.args.before.now c.args.frame ∙ sym c.names.ensures ∙ c.if-names.false in
    let len = length-map c.args.before.now (λ (it : FrameDelay). it.frame) in
    let many : leb most_ranges (length (map (λ (it : FrameDelay). it.frame) c.args.before.now)) ≡ true = grind (arith, nat_tests, len) in
    rw (some, small, fresh, many) refl

pub returns : goal.returns
returns c =
    let some : has_zero c.args.frame c.args.steps ≡ false = grind (arith, nat_tests) in
    let small : has_large c.args.frame c.args.steps ≡ false = grind (arith, nat_tests) in
    let fresh = named_frames c.args.before.now c.args.frame ∙ sym c.names.ensures ∙ c.if-names.false in
    let len = length-map c.args.before.now (λ (it : FrameDelay). it.frame) in
    let few : leb most_ranges (length (map (λ (it : FrameDelay). it.frame) c.args.before.now)) ≡ false = grind (arith, nat_tests, len) in
    rw (some, small, fresh, few) refl

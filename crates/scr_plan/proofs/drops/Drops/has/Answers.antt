use Rattle.std.proofs.Common.{◌≡◌, take, Bool, true, sym, take_all, ap, ◌∙◌}
use Rattle.std.specs.List.{list_any}
use Rattle.std.proofs.lemmas.List.Folds.{list_any_at}
use Rattle.scr_plan.specs.Drops.{has_number, range_has}
use Rattle.scr_plan.specs.declared.drops.DropRange.{DropRange}
use Rattle.scr_plan.proofs.drops.Drops.has.Goals as goal

pub returns-then-has-clause-answer : goal.returns-then-has-clause-answer
unfolding has_number
returns-then-has-clause-answer c =
    let items = c.deref-range-items.result.now in
    let i = c.loop-range.range-index in
    let at = sym c.has.ensures ∙ c.if-has.true in
    let found : list_any (λ range. range_has range c.args.n) items ≡ true = list_any_at (λ range. range_has range c.args.n) items i _ c.loop-range-test.true at in
    rw (← c.self.view_is, ← c.deref-range-items.ensures.value) (sym found)

pub returns-clause-answer : goal.returns-clause-answer
unfolding has_number
returns-clause-answer c =
    let items = c.deref-range-items.result.now in
    let all : take c.loop-range.range-index items ≡ items = take_all c.loop-range.range-index items c.loop-range-test.false in
    let test : DropRange → Bool = λ range. range_has range c.args.n in
    rw (← c.self.view_is, ← c.deref-range-items.ensures.value) (sym c.loop-range.invariant ∙ ap (list_any test) all)

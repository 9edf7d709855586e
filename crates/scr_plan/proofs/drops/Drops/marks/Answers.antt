use Rattle.std.proofs.Common.{◌≡◌, ◌+◌, ◌<◌, ◌||◌, ◌++◌, Bool, List, false, length, get_or, drop, sym, ap, subst, ◌∙◌, arith}
use Rattle.std.specs.List.{All, list_any}
use Rattle.std.proofs.lemmas.Grind.{common_steps}
use Rattle.std.proofs.lemmas.List.{get_or-take, get_or_append_left}
use Rattle.std.proofs.lemmas.List.Sorted.{All-permutation, list_any-IsPermutation}
use Rattle.scr_plan.specs.Drops.{IsRange, has_number, range_has}
use Rattle.scr_plan.specs.declared.drops.DropRange.{DropRange}
use Rattle.scr_plan.proofs.drops.Drops.marks.Goals as goal

pub mark_all-requires : goal.mark_all-requires
mark_all-requires c =
    let same : c.in_ok-sorted.sorted.items ≡ c.self.inside.ranges.items = c.in_ok-sorted.ensures.items ∙ c.deref.ensures.value in
    subst (All IsRange) (sym c.deref-2.ensures.value)
    (All-permutation IsRange c.in_ok-sorted.sorted.items c.sort_unstable_by_key.new.self.items c.sort_unstable_by_key.ensures.permutation
    (subst (All IsRange) (sym same) c.self.invariant.each))

pub returns-clause-marks : goal.returns-clause-marks
unfolding has_number
returns-clause-marks c k within =
    let test : DropRange → Bool = λ range. range_has range (k + 1) in
    let old : List Bool = c.in_ok-marks.marks.items in
    let new : List Bool = c.mark_all.new.marks in
    let none : get_or old k false ≡ false = grind (arith, common_steps) in
    let long : length old ≡ c.args.count = grind (arith, common_steps) in
    let below : k < length c.deref_mut.result.now = omega (arith, ap length c.deref_mut.ensures.value, long) in
    let room : k < c.in_ok-marks.marks.len = omega (arith, c.in_ok-marks.marks.ok.0, long) in
    get_or-take c.in_ok-marks.marks.len (new ++ drop (length new) old) k false room
    ∙ get_or_append_left new (drop (length new) old) false k (omega (arith, c.mark_all.auto.marks))
    ∙ c.mark_all.ensures k below
    ∙ ap (λ (marks : List Bool). get_or marks k false || list_any test c.deref-2.result.now) c.deref_mut.ensures.value
    ∙ ap (λ (b : Bool). b || list_any test c.deref-2.result.now) none
    ∙ ap (list_any test) c.deref-2.ensures.value
    ∙ sym (list_any-IsPermutation test c.in_ok-sorted.sorted.items c.sort_unstable_by_key.new.self.items c.sort_unstable_by_key.ensures.permutation)
    ∙ ap (list_any test) (c.in_ok-sorted.ensures.items ∙ c.deref.ensures.value ∙ c.self.view_is)

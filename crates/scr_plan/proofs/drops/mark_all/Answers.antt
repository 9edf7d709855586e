use Rattle.std.proofs.Common.{◌≡◌, ◌+◌, ◌<◌, ◌||◌, Bool, List, false, get_or, length, take, take_all, sym, ap, subst, ◌∙◌, arith}
use Rattle.std.specs.List.{list_any}
use Rattle.std.proofs.Math.Bool.{or_assoc}
use Rattle.scr_plan.specs.Drops.{IsRange, has_number, range_has}
use Rattle.scr_plan.specs.declared.drops.DropRange.{DropRange}
use Rattle.scr_plan.proofs.Joining.{range_more, has_none, next_at}
use Rattle.scr_plan.proofs.drops.mark_all.Goals as goal
use Rattle.scr_plan.proofs.drops.mark_all.Goals.{in-Some-joined, in-None}

pub returns-in_default : goal.returns-in_default
unfolding has_number
returns-in_default c k within =
    has_none (λ range. range_has range (k + 1)) c.args.ranges.now (get_or c.args.marks.now k false) c.in_default.ensures.cases

pub joined-requires-clause-other : goal.joined-requires-clause-other
joined-requires-clause-other c =
    let i = c.loop-next.next-index in
    let d : DropRange = record { first = 0; last = 0; step = 0 } in
    subst IsRange (next_at c.args.ranges.now c.in-Some.first.now c.in-Some.others.now i d c.in-Some.ensures.cases.0)
    (c.requires (i + 1) d (omega (arith, c.in-Some.ensures.cases.1, c.loop-next-test.true)))

pub loop-next-preserved : goal.loop-next-preserved
loop-next-preserved c =
    let i = c.loop-next.next-index in
    let ranges = c.args.ranges.now in
    let d : DropRange = record { first = 0; last = 0; step = 0 } in
    let next : DropRange = get_or c.in-Some.others.now i d in
    let at : get_or ranges (i + 1) d ≡ next = next_at ranges c.in-Some.first.now c.in-Some.others.now i d c.in-Some.ensures.cases.0 in
    let inside : i + 1 < length ranges = omega (arith, c.in-Some.ensures.cases.1, c.loop-next-test.true) in
    record {
      range = elim c.match-joined.branch [
        | in-Some-joined w ↦ subst IsRange (sym w.whole-is) w.in-Some-joined.ensures.range
        | in-None w ↦ subst IsRange (at ∙ sym w.whole-is) (c.requires (i + 1) d inside)
      ];
      marks = λ k within.
          let test : DropRange → Bool = λ range. range_has range (k + 1) in
          let marked : Bool = get_or c.loop-next.marks k false in
          let before : Bool = marked || test c.loop-next.whole in
          let now : Bool = get_or c.match-joined.marks k false || test c.match-joined.whole in
          let said : now ≡ (before || test next) = elim c.match-joined.branch [
            | in-Some-joined w ↦ (
                ap (λ (marks : List Bool). get_or marks k false || test c.match-joined.whole) w.marks-is
                ∙ ap (λ (range : DropRange). marked || test range) w.whole-is
                ∙ ap (λ (b : Bool). marked || b) (w.in-Some-joined.ensures.numbers (k + 1))
                ∙ sym (or_assoc marked (test c.loop-next.whole) (test next)))
            | in-None w ↦ (
                ap (λ (marks : List Bool). get_or marks k false || test c.match-joined.whole) w.marks-is
                ∙ ap (λ (range : DropRange). get_or w.mark.new.marks k false || test range) w.whole-is
                ∙ ap (λ (b : Bool). b || test next) (w.mark.ensures k (omega (arith, c.loop-next.auto.marks))))
          ] in
          range_more test ranges (i + 1) d (get_or c.args.marks.now k false) before now inside (c.loop-next.invariant.marks k within)
          (said ∙ ap (λ (range : DropRange). before || test range) (sym at));
    }

pub returns : goal.returns
unfolding has_number
returns c k within =
    let ranges = c.args.ranges.now in
    let test : DropRange → Bool = λ range. range_has range (k + 1) in
    let all : take (c.loop-next.next-index + 1) ranges ≡ ranges = take_all (c.loop-next.next-index + 1) ranges (omega (arith, c.in-Some.ensures.cases.1, c.loop-next-test.false)) in
    c.mark-2.ensures k (omega (arith, c.loop-next.auto.marks))
    ∙ c.loop-next.invariant.marks k within
    ∙ ap (λ (xs : List DropRange). get_or c.args.marks.now k false || list_any test xs) all

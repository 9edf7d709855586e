use Rattle.std.proofs.Common.{Vec, ◌≡◌, ◌+◌, ◌<◌, ◌≤◌, ℕ, List, [], length, get_or, set, refl, ap, ◌∙◌, subst, false, arith}
use Rattle.std.proofs.lemmas.List.{with_items_is}
use Rattle.std.specs.Vec.{with_items}
use Rattle.scr_base.specs.declared.row.Row.{Row}
use Rattle.scr_plan.specs.declared.given.Given.{Given}
use Rattle.scr_plan.specs.Delivered.{core_number, delivers}
use Rattle.scr_plan.specs.Plan.{Plan, frame_count}
use Rattle.scr_crew.specs.declared.arrivals.Front.{Front}
use Rattle.scr_crew.specs.Takings.{Takings, FrontTells}
use Rattle.scr_crew.proofs.TakenOnce.{verdicts-from-end}
use Rattle.scr_crew.proofs.Turns.{took-its, took-later, took-none}
use Rattle.scr_crew.proofs.taking.Taking.take_next.Goals as goal

-- the next frame's turn comes, over what the lanes have behind the try
turned : {Z : Type 0} (v : Vec (List Given) Z) (n core : ℕ) (old new : Takings) (inner lists : List (List Given)) (after : List Given)
    → record { next = n; to_come = v.items } ≡ old → inner ≡ v.items → lists ≡ set inner core after → length lists ≡ v.len
    → new ≡ record { next = n + 1; to_come = (with_items v lists).items } → new ≡ record { next = old.next + 1; to_come = set old.to_come core after }
turned v n core old new inner lists after view is written all e =
    e
    ∙ ap (λ (xs : List (List Given)). record { next = n + 1; to_come = xs })
    (with_items_is v lists all ∙ written ∙ ap (λ (xs : List (List Given)). set xs core after) (is ∙ ap (λ (t : Takings). t.to_come) view))
    ∙ ap (λ (k : ℕ). record { next = k + 1; to_come = set old.to_come core after }) (ap (λ (t : Takings). t.next) view)

-- what the lane of the core told, told of what the caller had
told : {Z : Type 0} (v : Vec (List Given) Z) (n core : ℕ) (old : Takings) (inner : List (List Given)) (after : List Given) (result what : Front)
    → record { next = n; to_come = v.items } ≡ old → inner ≡ v.items → result ≡ what
    → FrontTells n (get_or inner core []) after result → FrontTells old.next (get_or old.to_come core []) after what
told v n core old inner after result what view is same tells =
    subst (λ (t : Takings). FrontTells t.next (get_or t.to_come core []) after what) view
    (subst (λ (xs : List (List Given)). FrontTells n (get_or xs core []) after what) is
    (subst (λ (x : Front). FrontTells n (get_or inner core []) after x) same tells))

-- a frame's turn, and its core
record Turn (plan : Plan) (old : Takings) (core : ℕ) : Type 0 where
  to : old.next ≤ frame_count plan
  is : core ≡ core_number plan.cores old.next
  below : core < plan.cores

at-turn : (plan : Plan) (old : Takings) (n cores core : ℕ) (to_come : List (List Given)) (rows : List Row) → record { next = n; to_come = to_come } ≡ old
    → cores ≡ plan.cores → 1 ≤ plan.cores → rows ≡ plan.rows → n ≤ length rows → core ≡ core_number cores n → Turn plan old core
at-turn plan old n cores core to_come rows view k some all to own =
    let next : n ≡ old.next = ap (λ (t : Takings). t.next) view in
    let is : core ≡ core_number plan.cores old.next = own ∙ (λ i. core_number (k i) (next i)) in
    record { to = omega (arith, ap length all); is = is; below = omega arith }

pub returns-then-n-frames : goal.returns-then-n-frames
returns-then-n-frames g c =
    λ verdict_after coming.
    let next : c.self.inside.next ≡ c.args.self.now.next = ap (λ (t : Takings). t.next) c.self.view_is in
    let behind : frame_count c.args.plan.now < c.args.self.now.next = omega (arith, next, ap length c.rows.ensures.rows, c.if-n-frames.true) in
    (refl {a = c.args.self.now}, verdicts-from-end verdict_after c.args.plan.now c.args.self.now.next behind)

pub returns-in-Its : goal.returns-in-Its
returns-in-Its g c =
    λ verdict_after coming.
    let at : Turn c.args.plan.now c.args.self.now c.core_of-core.result =
    at-turn c.args.plan.now c.args.self.now c.self.inside.next _ c.core_of-core.result _ c.rows.result.now c.self.view_is c.cores.ensures.cores c.cores.ensures.ranges.a_core c.rows.ensures.rows c.if-n-frames.false c.core_of-core.ensures in
    took-its verdict_after c.args.plan.now c.args.self.now c.pass.new.self coming at.to c.core_of-core.result at.is at.below c.take_of.ensures.0 c.in-Its.given
    (told c.self.inside.arrivals c.self.inside.next c.core_of-core.result c.args.self.now c.deref_mut.result.now c.take_of.ensures.0 _ _ c.self.view_is c.deref_mut.ensures.value c.in-Its.is c.take_of.ensures.2)
    (turned c.self.inside.arrivals c.self.inside.next c.core_of-core.result c.args.self.now c.pass.new.self c.deref_mut.result.now c.take_of.new.arrivals c.take_of.ensures.0 c.self.view_is c.deref_mut.ensures.value c.take_of.ensures.1
    (c.take_of.auto.arrivals ∙ c.deref_mut.ensures.len) c.pass.ensures)

pub returns-in-Later : goal.returns-in-Later
returns-in-Later g c =
    λ verdict_after coming.
    let at : Turn c.args.plan.now c.args.self.now c.core_of-core.result =
    at-turn c.args.plan.now c.args.self.now c.self.inside.next _ c.core_of-core.result _ c.rows.result.now c.self.view_is c.cores.ensures.cores c.cores.ensures.ranges.a_core c.rows.ensures.rows c.if-n-frames.false c.core_of-core.ensures in
    took-later verdict_after c.args.plan.now c.args.self.now c.pass-in-Later.new.self coming at.to c.core_of-core.result at.is at.below c.take_of.ensures.0
    (told c.self.inside.arrivals c.self.inside.next c.core_of-core.result c.args.self.now c.deref_mut.result.now c.take_of.ensures.0 _ _ c.self.view_is c.deref_mut.ensures.value c.in-Later.is c.take_of.ensures.2)
    (turned c.self.inside.arrivals c.self.inside.next c.core_of-core.result c.args.self.now c.pass-in-Later.new.self c.deref_mut.result.now c.take_of.new.arrivals c.take_of.ensures.0 c.self.view_is c.deref_mut.ensures.value c.take_of.ensures.1
    (c.take_of.auto.arrivals ∙ c.deref_mut.ensures.len) c.pass-in-Later.ensures)

pub returns-in-Empty-2 : goal.returns-in-Empty-2
returns-in-Empty-2 g c =
    λ verdict_after coming.
    let at : Turn c.args.plan.now c.args.self.now c.core_of-core.result =
    at-turn c.args.plan.now c.args.self.now c.self.inside.next _ c.core_of-core.result _ c.rows.result.now c.self.view_is c.cores.ensures.cores c.cores.ensures.ranges.a_core c.rows.ensures.rows c.if-n-frames.false c.core_of-core.ensures in
    took-none verdict_after c.args.plan.now c.args.self.now c.pass-in-Empty-2.new.self coming at.to c.core_of-core.result at.is at.below c.take_of.ensures.0
    (told c.self.inside.arrivals c.self.inside.next c.core_of-core.result c.args.self.now c.deref_mut.result.now c.take_of.ensures.0 _ _ c.self.view_is c.deref_mut.ensures.value c.in-Empty.is c.take_of.ensures.2)
    (subst (λ (t : Takings). delivers c.args.plan.now t.next ≡ false) c.self.view_is (c.awaits.ensures.no c.if-awaits.false))
    (turned c.self.inside.arrivals c.self.inside.next c.core_of-core.result c.args.self.now c.pass-in-Empty-2.new.self c.deref_mut.result.now c.take_of.new.arrivals c.take_of.ensures.0 c.self.view_is c.deref_mut.ensures.value c.take_of.ensures.1
    (c.take_of.auto.arrivals ∙ c.deref_mut.ensures.len)
    (c.pass-in-Empty-2.ensures ∙ ap (λ (t : Takings). record { next = t.next + 1; to_come = t.to_come }) c.awaits.ensures.same))

use Rattle.std.proofs.Common.{rules, subst}
use Rattle.std.specs.Vec.Iter.{into_iter_items}
use Rattle.scr_crew.proofs.NewArrivals.{Arrived, one-arrived, all-arrived}
use Rattle.scr_crew.proofs.taking.Taking.by.Goals as goal

pub loop-end-preserved : goal.loop-end-preserved
loop-end-preserved g c =
    λ verdict_after plan of.
    one-arrived verdict_after plan c.loop-end.arrivals.items _ c.by.result c.in-Some.end (into_iter_items c.next.new.self)
    (subst (Arrived verdict_after plan c.loop-end.arrivals.items) c.in-Some.ensures.steps.0 (c.loop-end.invariant verdict_after plan of)) c.by.ensures c.in_ok-push.ensures.items

pub returns-clause-coming : goal.returns-clause-coming
returns-clause-coming g c =
    λ verdict_after plan of.
    all-arrived verdict_after plan c.loop-end.arrivals.items (into_iter_items c.loop-end.end-iterator) (c.loop-end.invariant verdict_after plan of) (search rules)

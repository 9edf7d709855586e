use Rattle.std.proofs.Common.{◌+◌, ◌||◌, ◌==◌, ℕ, List, Bool, take_all, ap, ◌∙◌}
use Rattle.std.specs.List.{list_any}
use Rattle.scr_plan.specs.Drops.{has_number}
use Rattle.scr_plan.specs.Link.{Link, loses}
use Rattle.scr_plan.proofs.link.Link.losses.Goals as goal

pub returns-clause-losses : goal.returns-clause-losses
unfolding loses
returns-clause-losses c k within =
    let items = c.deref-n-items.result.now in
    let test : ℕ → Bool = λ m. m == k + 1 in
    c.loop-n.invariant.losses k within
    ∙ ap (λ (ms : List ℕ). has_number c.args.self.now.drops (k + 1) || list_any test ms)
    (take_all c.loop-n.n-index items c.loop-n-test.false ∙ c.deref-n-items.ensures.value ∙ ap (λ (link : Link). link.missing) c.self.view_is)

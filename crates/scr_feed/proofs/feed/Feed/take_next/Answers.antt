use Rattle.std.proofs.Common.{sym, refl, ap, ◌∙◌, subst}
use Rattle.scr_feed.specs.Left.{NoneToAll}
use Rattle.scr_feed.specs.Feeding.{Feeding, IsWhole}
use Rattle.scr_feed.proofs.Feeds.{shown, whole}
use Rattle.scr_feed.proofs.feed.Feed.take_next.Goals as goal

pub returns-then-self-clause-tells : goal.returns-then-self-clause-tells
returns-then-self-clause-tells c =
    let s = c.self.inside in
    let f : Feeding = shown s.plan.now s.taken s.ended s.ends.items s.to_all s.from s.own s.late.items in (
      refl,
      subst IsWhole c.self.view_is
          (whole f c.self.invariant.0 (subst (λ (x : Feeding). NoneToAll x.plan.cores x.left) (sym c.self.view_is) c.requires.all)
          (ap (λ (x : Feeding). x.left.frames) c.self.view_is ∙ c.requires.one) c.if-self.true),
    )

use Rattle.std.proofs.Common.{◌≤◌, ◌∷◌, [], List, length, inl, true, sym, refl, ap, ◌∙◌, subst}
use Rattle.scr_base.specs.declared.row.Row.{Row}
use Rattle.scr_plan.specs.Plan.{frame_count}
use Rattle.scr_wire.specs.declared.message.Message.TheVariants as message
use Rattle.scr_sequencer.specs.Answers.{late}
use Rattle.scr_feed.specs.Left.{NoneToAll}
use Rattle.scr_feed.specs.Feeding.{Feeding}
use Rattle.scr_feed.proofs.Feeds.{shown, takes_step, takes_end}
use Rattle.scr_feed.proofs.feed.Feed.take_behind.Goals as goal

pub invariant_of-self : goal.invariant_of-self
invariant_of-self c =
    let s = c.self.inside in
    let f : Feeding = shown s.plan.now s.taken s.ended s.ends.items s.to_all s.from s.own s.late.items in
    let last : frame_count s.plan.now ≤ s.taken = subst (λ (x : Feeding). frame_count x.plan ≤ x.taken) (sym c.self.view_is) c.requires.last.0 in
    let step = c.in-Some.ensures s.plan.now s.taken c.self.invariant.1 last in (
      takes_step f _ (late c.in-Some.frames.items) c.self.invariant.0 (subst (λ (x : Feeding). NoneToAll x.plan.cores x.left) (sym c.self.view_is) c.requires.all)
          (ap (λ (x : Feeding). x.left.frames) c.self.view_is ∙ c.requires.one) (ap (λ (x : Feeding). x.ended) c.self.view_is ∙ c.requires.last.1)
          step.0 step.1 refl (inl refl),
      step.2,
      c.self.invariant.2,
      c.self.invariant.3,
      c.self.invariant.4,
    )

pub invariant_of-self-in-None : goal.invariant_of-self-in-None
invariant_of-self-in-None c =
    let s = c.self.inside in
    let f : Feeding = shown s.plan.now s.taken s.ended s.ends.items s.to_all s.from s.own s.late.items in
    let last : frame_count s.plan.now ≤ s.taken = subst (λ (x : Feeding). frame_count x.plan ≤ x.taken) (sym c.self.view_is) c.requires.last.0 in
    let step = c.in-None.ensures s.plan.now s.taken c.self.invariant.1 last in (
      takes_end f _ c.self.invariant.0 (subst (λ (x : Feeding). NoneToAll x.plan.cores x.left) (sym c.self.view_is) c.requires.all)
          (ap (λ (x : Feeding). x.left.frames) c.self.view_is ∙ c.requires.one) (ap (λ (x : Feeding). x.ended) c.self.view_is ∙ c.requires.last.1) step.0
          (ap (λ (rows : List Row). record f { ended = true; left = record { to_all = message.End (length rows) ∷ []; from = 0; frames = f.left.frames } }) c.rows.ensures.rows),
      step.1,
      c.self.invariant.2,
      c.self.invariant.3,
      c.self.invariant.4,
    )

pub returns-in-Some-clause-feed : goal.returns-in-Some-clause-feed
returns-in-Some-clause-feed c = (invariant_of-self c).0

pub returns-in-None-clause-feed : goal.returns-in-None-clause-feed
returns-in-None-clause-feed c = (invariant_of-self-in-None c).0

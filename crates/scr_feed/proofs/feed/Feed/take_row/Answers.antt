use Rattle.std.proofs.Common.{◌<◌, ◌+◌, ◌++◌, List, get_or, Some, inr, sym, refl, ap, ◌∙◌, subst, arith}
use Rattle.std.specs.Option.{option_to_list}
use Rattle.std.proofs.lemmas.Option.{slice_get-get_or}
use Rattle.scr_base.specs.declared.row.Row.{Row}
use Rattle.scr_plan.specs.Plan.{Plan, frame_count}
use Rattle.scr_wire.specs.declared.message.Message.{Message}
use Rattle.scr_sequencer.specs.Answers.{Answer, Adds}
use Rattle.scr_feed.specs.Left.{NoneToAll}
use Rattle.scr_feed.specs.Feeding.{Feeding}
use Rattle.scr_feed.proofs.Feeds.{shown, takes_step}
use Rattle.scr_feed.proofs.feed.Feed.take_row.Goals as goal

pub invariant_of-self-2 : goal.invariant_of-self-2
invariant_of-self-2 c =
    let s = c.self.inside in
    let f : Feeding = shown s.plan.now s.taken s.ended s.ends.items s.to_all s.from s.own s.late.items in
    let plan : Plan = s.plan.now in
    let more : s.taken < frame_count plan = subst (λ (x : Feeding). x.taken < frame_count x.plan) (sym c.self.view_is) c.requires.more.0 in
    let zero : Row = record { w0 = 0; w1 = 0; w2 = 0; w3 = 0; w4 = 0; w5 = 0; w6 = 0 } in
    let lanes = c.in_ok-next.ensures.lanes plan s.taken c.self.invariant.1
    (slice_get-get_or plan.rows s.taken zero more ∙ ap (λ (xs : List Row). Some (get_or xs s.taken zero)) (sym c.rows.ensures.rows))
    (c.index.ensures ∙ c.self.invariant.3 s.taken c.index.result.now more) in
    let out : Answer = record { beacon = c.next-2.inside.beacon; sent = option_to_list c.next-2.inside.own ++ c.next-2.inside.late.items } in (
      takes_step f _ out c.self.invariant.0 (subst (λ (x : Feeding). NoneToAll x.plan.cores x.left) (sym c.self.view_is) c.requires.all)
          (ap (λ (x : Feeding). x.left.frames) c.self.view_is ∙ c.requires.one) (ap (λ (x : Feeding). x.ended) c.self.view_is ∙ c.requires.more.1)
          (omega arith) (subst (Adds plan (s.taken + 1)) (sym c.next-2.view_is) lanes.0)
          (ap (λ (ms : List Message). record f { taken = f.taken + 1; left = record { to_all = ms; from = 0; frames = out.sent } }) c.beacon_to_all-self-inside.ensures)
          (inr refl),
      lanes.1,
      c.self.invariant.2,
      c.self.invariant.3,
      c.self.invariant.4,
    )

pub returns-clause-feed : goal.returns-clause-feed
returns-clause-feed c = (invariant_of-self-2 c).0

use Rattle.std.proofs.Common.{◌∷◌, ◌++◌, ℕ, List, set, Option, sym, ap, ◌∙◌, subst, arith}
use Rattle.std.specs.Option.{option_to_list}
use Rattle.scr_sequencer.specs.Sequence.{Arriving}
use Rattle.scr_feed.specs.Left.{NoneToAll}
use Rattle.scr_feed.specs.Feeding.{Feeding, IsFeeding}
use Rattle.scr_feed.proofs.Feeds.{shown, first_below, next_to_one, sent_to_one, no_room, with_frames}
use Rattle.scr_feed.proofs.Tells.{sent_one, sent_tells, full_tells}
use Rattle.scr_feed.proofs.feed.Feed.send_to_one.Goals as goal

pub index_mut-requires : goal.index_mut-requires
index_mut-requires g c =
    let s = c.self.inside in
    let f : Feeding = shown s.plan.now s.taken s.ended s.ends.items s.to_all s.from s.own s.late.items in
    let it : Arriving = record { core = c.core.inside.core; packet = c.core.inside.packet; copy = c.core.inside.copy } in
    let others : List Arriving = c.take_first.new.others.items in
    let none = subst (λ (x : Feeding). NoneToAll x.plan.cores x.left) (sym c.self.view_is) c.requires in
    let frames = c.in_ok-core.ensures.some ∙ ap (λ (x : Arriving). x ∷ others) (sym c.core.view_is) in
    let below = first_below f it others c.self.invariant.0 none frames in
    let all = c.self.invariant.0.each_core in
    omega (arith, s.ends.ok.0)

pub offer-requires : goal.offer-requires
offer-requires g c =
    let s = c.self.inside in
    let f : Feeding = shown s.plan.now s.taken s.ended s.ends.items s.to_all s.from s.own s.late.items in
    let it : Arriving = record { core = c.core.inside.core; packet = c.core.inside.packet; copy = c.core.inside.copy } in
    let others : List Arriving = c.take_first.new.others.items in
    let none = subst (λ (x : Feeding). NoneToAll x.plan.cores x.left) (sym c.self.view_is) c.requires in
    let frames = c.in_ok-core.ensures.some ∙ ap (λ (x : Arriving). x ∷ others) (sym c.core.view_is) in
    next_to_one f it others c.self.invariant.0 none frames c.index_mut.result.now c.index_mut.ensures.value

pub invariant_of-self-in-Ok : goal.invariant_of-self-in-Ok
invariant_of-self-in-Ok g c =
    let s = c.self.inside in
    let f : Feeding = shown s.plan.now s.taken s.ended s.ends.items s.to_all s.from s.own s.late.items in
    let it : Arriving = record { core = c.core.inside.core; packet = c.core.inside.packet; copy = c.core.inside.copy } in
    let others : List Arriving = c.take_first.new.others.items in
    let none = subst (λ (x : Feeding). NoneToAll x.plan.cores x.left) (sym c.self.view_is) c.requires in
    let frames = c.in_ok-core.ensures.some ∙ ap (λ (x : Arriving). x ∷ others) (sym c.core.view_is) in
    let one = sent_one c.index_mut.result.now c.offer.new.end c.in-Ok.ensures.sent in (
      subst (λ (o : Option Arriving). IsFeeding (record f { ends = set f.ends it.core c.offer.new.end; left = record f.left { frames = option_to_list o ++ others } })) (sym c.second.ensures)
          (sent_to_one f it others c.self.invariant.0 none frames c.index_mut.result.now c.offer.new.end c.index_mut.ensures.value one.0 one.1),
      c.self.invariant.1,
      c.self.invariant.2,
      c.self.invariant.3,
      c.self.invariant.4,
    )

pub invariant_of-self-in-Err : goal.invariant_of-self-in-Err
invariant_of-self-in-Err g c =
    let s = c.self.inside in
    let f : Feeding = shown s.plan.now s.taken s.ended s.ends.items s.to_all s.from s.own s.late.items in
    let it : Arriving = record { core = c.core.inside.core; packet = c.core.inside.packet; copy = c.core.inside.copy } in
    let others : List Arriving = c.take_first.new.others.items in
    let none = subst (λ (x : Feeding). NoneToAll x.plan.cores x.left) (sym c.self.view_is) c.requires in
    let frames = c.in_ok-core.ensures.some ∙ ap (λ (x : Arriving). x ∷ others) (sym c.core.view_is) in
    let same = frames ∙ ap (λ (packet : List ℕ). record it { packet = packet } ∷ others) (sym c.in-Err.ensures.back) in (
      subst (λ (its : List Arriving). IsFeeding (record f { ends = set f.ends it.core c.offer.new.end; left = record f.left { frames = its } })) same
          (no_room f it.core c.index_mut.result.now c.offer.new.end c.self.invariant.0 (first_below f it others c.self.invariant.0 none frames) c.index_mut.ensures.value c.in-Err.ensures.full),
      c.self.invariant.1,
      c.self.invariant.2,
      c.self.invariant.3,
      c.self.invariant.4,
    )

pub returns-in-Ok-clause-tells : goal.returns-in-Ok-clause-tells
returns-in-Ok-clause-tells g c =
    let s = c.self.inside in
    let f : Feeding = shown s.plan.now s.taken s.ended s.ends.items s.to_all s.from s.own s.late.items in
    let it : Arriving = record { core = c.core.inside.core; packet = c.core.inside.packet; copy = c.core.inside.copy } in
    let others : List Arriving = c.take_first.new.others.items in
    let none = subst (λ (x : Feeding). NoneToAll x.plan.cores x.left) (sym c.self.view_is) c.requires in
    let frames = c.in_ok-core.ensures.some ∙ ap (λ (x : Arriving). x ∷ others) (sym c.core.view_is) in
    sent_tells f _ it.core c.index_mut.result.now c.offer.new.end (with_frames f.left (option_to_list c.second.result ++ others)) c.self.view_is c.self.invariant.0
    (first_below f it others c.self.invariant.0 none frames) c.index_mut.ensures.value c.in-Ok.ensures.sent

pub returns-in-Err-clause-tells : goal.returns-in-Err-clause-tells
returns-in-Err-clause-tells g c =
    let s = c.self.inside in
    let f : Feeding = shown s.plan.now s.taken s.ended s.ends.items s.to_all s.from s.own s.late.items in
    let it : Arriving = record { core = c.core.inside.core; packet = c.core.inside.packet; copy = c.core.inside.copy } in
    let others : List Arriving = c.take_first.new.others.items in
    let none = subst (λ (x : Feeding). NoneToAll x.plan.cores x.left) (sym c.self.view_is) c.requires in
    let frames = c.in_ok-core.ensures.some ∙ ap (λ (x : Arriving). x ∷ others) (sym c.core.view_is) in
    let same = frames ∙ ap (λ (packet : List ℕ). record it { packet = packet } ∷ others) (sym c.in-Err.ensures.back) in
    full_tells f _ it.core c.index_mut.result.now c.offer.new.end (with_frames f.left (record it { packet = c.in-Err.packet } ∷ others)) c.self.view_is c.self.invariant.0
    (ap (with_frames f.left) (sym same))
    (first_below f it others c.self.invariant.0 none frames) c.index_mut.ensures.value c.in-Err.ensures.full

pub returns-in-Ok-clause-feed : goal.returns-in-Ok-clause-feed
returns-in-Ok-clause-feed g c = (invariant_of-self-in-Ok g c).0

pub returns-in-Err-clause-feed : goal.returns-in-Err-clause-feed
returns-in-Err-clause-feed g c = (invariant_of-self-in-Err g c).0

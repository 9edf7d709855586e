use Rattle.std.proofs.Common.{◌≡◌, ◌<◌, ◌∷◌, [], map, sym, refl, ◌∙◌, subst}
use Rattle.scr_wire.specs.Spelling.{spelling}
use Rattle.scr_feed.specs.Feeding.{Feeding}
use Rattle.scr_feed.proofs.Feeds.{shown, next_to_all, sent_to_all, passed_on}
use Rattle.scr_feed.proofs.Tells.{on_ok, on_err, sent_one, sent_tells, full_tells}
use Rattle.scr_feed.proofs.feed.Feed.send_to_all.Goals as goal

pub offer-requires : goal.offer-requires
offer-requires g c =
    let s = c.self.inside in
    let f : Feeding = shown s.plan.now s.taken s.ended s.ends.items s.to_all s.from s.own s.late.items in
    next_to_all f c.args.packet c.index_mut.result.now c.self.invariant.0
    (subst (λ (x : Feeding). x.left.from < x.plan.cores) (sym c.self.view_is) c.requires.turn)
    (subst (λ (x : Feeding). map spelling x.left.to_all ≡ c.args.packet ∷ []) (sym c.self.view_is) c.requires.packet)
    c.index_mut.ensures.value

pub returns-then-is_err-clause-tells : goal.returns-then-is_err-clause-tells
returns-then-is_err-clause-tells g c =
    let s = c.self.inside in
    let f : Feeding = shown s.plan.now s.taken s.ended s.ends.items s.to_all s.from s.own s.late.items in
    full_tells f _ s.from c.index_mut.result.now c.offer.new.end f.left c.self.view_is c.self.invariant.0 refl
    (subst (λ (x : Feeding). x.left.from < x.plan.cores) (sym c.self.view_is) c.requires.turn) c.index_mut.ensures.value
    (on_err c.offer.result _ (sym c.is_err.ensures.value ∙ c.if-is_err.true) c.offer.ensures.full)

pub invariant_of-self-2 : goal.invariant_of-self-2
invariant_of-self-2 g c =
    let s = c.self.inside in
    let f : Feeding = shown s.plan.now s.taken s.ended s.ends.items s.to_all s.from s.own s.late.items in
    let sent = on_ok c.offer.result _ (sym c.is_err.ensures.value ∙ c.if-is_err.false) c.offer.ensures.sent in
    let one = sent_one c.index_mut.result.now c.offer.new.end sent in (
      sent_to_all f c.args.packet c.index_mut.result.now c.offer.new.end c.self.invariant.0
          (subst (λ (x : Feeding). x.left.from < x.plan.cores) (sym c.self.view_is) c.requires.turn)
          (subst (λ (x : Feeding). map spelling x.left.to_all ≡ c.args.packet ∷ []) (sym c.self.view_is) c.requires.packet)
          c.index_mut.ensures.value one.0 one.1,
      c.self.invariant.1,
      c.self.invariant.2,
      c.self.invariant.3,
      c.self.invariant.4,
    )

pub returns-clause-tells : goal.returns-clause-tells
returns-clause-tells g c =
    let s = c.self.inside in
    let f : Feeding = shown s.plan.now s.taken s.ended s.ends.items s.to_all s.from s.own s.late.items in
    let sent = on_ok c.offer.result _ (sym c.is_err.ensures.value ∙ c.if-is_err.false) c.offer.ensures.sent in
    sent_tells f _ s.from c.index_mut.result.now c.offer.new.end (passed_on f.left) c.self.view_is c.self.invariant.0
    (subst (λ (x : Feeding). x.left.from < x.plan.cores) (sym c.self.view_is) c.requires.turn) c.index_mut.ensures.value sent

pub returns-clause-feed : goal.returns-clause-feed
returns-clause-feed g c = (invariant_of-self-2 g c).0

-- The neighbours of the place are linked to each other.
use Rattle.std.proofs.Common.{◌≡◌, ◌∙◌, Contains, arith, sym, subst, ap, refl}
use Rattle.std.proofs.lemmas.List.{get_or_read}
use Rattle.scr_flows.specs.Order.{Places, walk}
use Rattle.scr_flows.proofs.Elements.{Contains-cut}
use Rattle.scr_flows.proofs.Rings.{older-within, newer-within, walk-taken, ring-taken-walk}
use Rattle.scr_flows.proofs.order.Order.take_out.Goals as goal

pub index-older-requires : goal.index-older-requires
index-older-requires c =
    let ring = c.self.invariant in
    let wide = ring.older_len in
    let places : walk c.self.inside.older.items c.self.inside.end c.self.inside.len ≡ c.args.self.now.places = ap (λ (p : Places). p.places) c.self.view_is in
    let below = ring.below c.args.place (subst (λ l. Contains l c.args.place) (sym places) c.requires) in
    omega arith

pub index-newer-requires : goal.index-newer-requires
index-newer-requires c =
    let ring = c.self.invariant in
    let wide = ring.newer_len in
    let places : walk c.self.inside.older.items c.self.inside.end c.self.inside.len ≡ c.args.self.now.places = ap (λ (p : Places). p.places) c.self.view_is in
    let below = ring.below c.args.place (subst (λ l. Contains l c.args.place) (sym places) c.requires) in
    omega arith

pub index_mut-requires : goal.index_mut-requires
index_mut-requires c =
    let ring = c.self.invariant in
    let wide = ring.newer_len in
    let long = ring.older_len in
    let places : walk c.self.inside.older.items c.self.inside.end c.self.inside.len ≡ c.args.self.now.places = ap (λ (p : Places). p.places) c.self.view_is in
    let there = subst (λ l. Contains l c.args.place) (sym places) c.requires in
    let below = ring.below c.args.place there in
    let o = get_or_read c.self.inside.older.items c.args.place c.index-older.result.now (omega arith) c.index-older.ensures 0 in
    let n = get_or_read c.self.inside.newer.items c.args.place c.index-newer.result.now (omega arith) c.index-newer.ensures 0 in
    let cut = Contains-cut _ c.args.place there in
    let less = newer-within ring c.self.inside.len refl cut.0 c.args.place cut.1 cut.2 _ _ o n in
    omega arith

pub index_mut-requires-2 : goal.index_mut-requires-2
index_mut-requires-2 c =
    let ring = c.self.invariant in
    let wide = ring.newer_len in
    let long = ring.older_len in
    let places : walk c.self.inside.older.items c.self.inside.end c.self.inside.len ≡ c.args.self.now.places = ap (λ (p : Places). p.places) c.self.view_is in
    let there = subst (λ l. Contains l c.args.place) (sym places) c.requires in
    let below = ring.below c.args.place there in
    let o = get_or_read c.self.inside.older.items c.args.place c.index-older.result.now (omega arith) c.index-older.ensures 0 in
    let n = get_or_read c.self.inside.newer.items c.args.place c.index-newer.result.now (omega arith) c.index-newer.ensures 0 in
    let cut = Contains-cut _ c.args.place there in
    let less = older-within ring c.self.inside.len refl cut.0 c.args.place cut.1 cut.2 _ _ o n in
    omega arith

pub invariant_of-self : goal.invariant_of-self
invariant_of-self c =
    let ring = c.self.invariant in
    let wide = ring.newer_len in
    let long = ring.older_len in
    let places : walk c.self.inside.older.items c.self.inside.end c.self.inside.len ≡ c.args.self.now.places = ap (λ (p : Places). p.places) c.self.view_is in
    let there = subst (λ l. Contains l c.args.place) (sym places) c.requires in
    let below = ring.below c.args.place there in
    let o = get_or_read c.self.inside.older.items c.args.place c.index-older.result.now (omega arith) c.index-older.ensures 0 in
    let n = get_or_read c.self.inside.newer.items c.args.place c.index-newer.result.now (omega arith) c.index-newer.ensures 0 in
    let cut = Contains-cut _ c.args.place there in
    ring-taken-walk ring c.self.inside.len refl cut.0 c.args.place cut.1 cut.2 _ _ o n _ refl

pub returns-clause-places : goal.returns-clause-places
returns-clause-places c before after e =
    let ring = c.self.invariant in
    let wide = ring.newer_len in
    let long = ring.older_len in
    let places : walk c.self.inside.older.items c.self.inside.end c.self.inside.len ≡ c.args.self.now.places = ap (λ (p : Places). p.places) c.self.view_is in
    let there = subst (λ l. Contains l c.args.place) (sym places) c.requires in
    let below = ring.below c.args.place there in
    let o = get_or_read c.self.inside.older.items c.args.place c.index-older.result.now (omega arith) c.index-older.ensures 0 in
    let n = get_or_read c.self.inside.newer.items c.args.place c.index-newer.result.now (omega arith) c.index-newer.ensures 0 in
    walk-taken ring c.self.inside.len refl before c.args.place after (places ∙ e) _ _ o n _ refl

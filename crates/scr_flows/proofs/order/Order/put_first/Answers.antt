-- The place is linked in between the bound and what was first.
use Rattle.std.proofs.Common.{◌≡◌, ◌<◌, ◌∙◌, ◌∷◌, ℕ, List, length, Contains, arith, sym, subst, ap, refl}
use Rattle.std.proofs.lemmas.List.{get_or_read}
use Rattle.scr_flows.specs.Order.{Places, walk}
use Rattle.scr_flows.proofs.Leads.{length-walk}
use Rattle.scr_flows.proofs.Rings.{first-within, walk-put, ring-put-walk}
use Rattle.scr_flows.proofs.order.Order.put_first.Goals as goal

pub index_mut-requires-4 : goal.index_mut-requires-4
index_mut-requires-4 c =
    let ring = c.self.invariant in
    let wide = ring.older_len in
    let long = ring.newer_len in
    let is = get_or_read c.self.inside.older.items c.self.inside.end c.index-first.result.now (omega arith) c.index-first.ensures 0 in
    let less = first-within ring c.self.inside.len refl c.index-first.result.now is in
    omega arith

pub overflow_add-self : goal.overflow_add-self
overflow_add-self c =
    let end : c.self.inside.end ≡ c.args.self.now.end = ap (λ (p : Places). p.end) c.self.view_is in
    let places : walk c.self.inside.older.items c.self.inside.end c.self.inside.len ≡ c.args.self.now.places = ap (λ (p : Places). p.places) c.self.view_is in
    let count : c.self.inside.len ≡ length c.args.self.now.places = sym (length-walk c.self.inside.older.items c.self.inside.end c.self.inside.len) ∙ ap (λ (l : List ℕ). length l) places in
    let fits = c.requires.fits in
    omega (arith, count, fits, end, c.self.ranges)

pub invariant_of-self : goal.invariant_of-self
invariant_of-self c =
    let ring = c.self.invariant in
    let wide = ring.older_len in
    let end : c.self.inside.end ≡ c.args.self.now.end = ap (λ (p : Places). p.end) c.self.view_is in
    let places : walk c.self.inside.older.items c.self.inside.end c.self.inside.len ≡ c.args.self.now.places = ap (λ (p : Places). p.places) c.self.view_is in
    let is = get_or_read c.self.inside.older.items c.self.inside.end c.index-first.result.now (omega arith) c.index-first.ensures 0 in
    ring-put-walk ring c.self.inside.len refl c.args.place c.index-first.result.now (subst (λ n. c.args.place < n) (sym end) c.requires.below)
    (λ there. c.requires.absent (subst (λ l. Contains l c.args.place) places there))
    (omega (arith, ap (λ (l : List ℕ). length l) places, end, c.requires.fits)) is _ refl

pub returns : goal.returns
returns c =
    let ring = c.self.invariant in
    let wide = ring.older_len in
    let end : c.self.inside.end ≡ c.args.self.now.end = ap (λ (p : Places). p.end) c.self.view_is in
    let places : walk c.self.inside.older.items c.self.inside.end c.self.inside.len ≡ c.args.self.now.places = ap (λ (p : Places). p.places) c.self.view_is in
    let is = get_or_read c.self.inside.older.items c.self.inside.end c.index-first.result.now (omega arith) c.index-first.ensures 0 in
    let put = walk-put ring c.self.inside.len refl c.args.place c.index-first.result.now (subst (λ n. c.args.place < n) (sym end) c.requires.below)
    (λ there. c.requires.absent (subst (λ l. Contains l c.args.place) places there))
    (omega (arith, ap (λ (l : List ℕ). length l) places, end, c.requires.fits)) is _ refl in
    λ i. record { end = end i; places = (put ∙ ap (λ (l : List ℕ). c.args.place ∷ l) places) i }

-- The new flow has the place behind all, or that of the last, and comes to the front.
use Rattle.std.proofs.Common.{rules, ◌≡◌, ◌∙◌, ◌<◌, ℕ, List, [], ◌∷◌, ◌++◌, length, take, slice_set, arith, sym, ap, subst, Contains, None}
use Rattle.std.proofs.lemmas.List.{length-set}
use Rattle.std.specs.List.{IsDistinct}
use Rattle.std.specs.Map.{keys_of, lookup}
use Rattle.indexmap.proofs.CallerLemmas.{insert_entry-new}
use Rattle.scr_flows.specs.Flows.{Known, listed, list_of}
use Rattle.scr_flows.specs.Order.{Places}
use Rattle.scr_flows.proofs.Elements.{Contains-middle}
use Rattle.scr_flows.proofs.Kept.{end-cut, place-within, taken-absent, taken-fits, used-known, pushed-absent, pushed-known, pushed-list, swapped, evicted-list}
use Rattle.scr_flows.proofs.flows.Flows.add.Goals as goal

pub put_first-requires-clause-absent : goal.put_first-requires-clause-absent
put_first-requires-clause-absent g c there =
    let known = c.self.invariant in
    let map = c.self.inside.map in
    let count : c.len-count.result ≡ length map.entries = c.len-count.ensures.len ∙ ap (λ (l : List (g.row.K.Denot × g.row.V.Denot)). length l) c.in_ok-reserve.ensures.entries in
    let less : length map.entries < c.self.inside.most = omega (arith, count, c.if-count-self.true) in
    pushed-absent known (c.args.key, c.args.entry) less (subst (Contains c.self.inside.order.places) count there)

pub invariant_of-self-then-count-self : goal.invariant_of-self-then-count-self
invariant_of-self-then-count-self g c =
    let known = c.self.invariant in
    let map = c.self.inside.map in
    let pair : g.row.K.Denot × g.row.V.Denot = (c.args.key, c.args.entry) in
    let count : c.len-count.result ≡ length map.entries = c.len-count.ensures.len ∙ ap (λ (l : List (g.row.K.Denot × g.row.V.Denot)). length l) c.in_ok-reserve.ensures.entries in
    let less : length map.entries < c.self.inside.most = omega (arith, count, c.if-count-self.true) in
    let same : c.reserve.new.self.entries ≡ c.args.self.now.pairs = c.in_ok-reserve.ensures.entries ∙ ap (λ (k : Known g.row.K.Denot g.row.V.Denot). k.pairs) c.self.view_is in
    let none : lookup (g.K.PartialEq.eq c.args.key) c.reserve.new.self.entries ≡ None = ap (λ (l : List (g.row.K.Denot × g.row.V.Denot)). lookup (g.K.PartialEq.eq c.args.key) l) same ∙ c.requires.0 in
    let entries : c.insert.new.self.entries ≡ map.entries ++ pair ∷ [] = c.in_ok-insert.ensures.entries ∙ insert_entry-new g.K.PartialEq.eq c.reserve.new.self c.args.key c.args.entry none ∙ ap (λ (l : List (g.row.K.Denot × g.row.V.Denot)). l ++ pair ∷ []) c.in_ok-reserve.ensures.entries in
    let places : c.put_first.new.self.places ≡ length map.entries ∷ c.self.inside.order.places = ap (λ (p : Places). p.places) c.put_first.ensures ∙ ap (λ (n : ℕ). n ∷ c.self.inside.order.places) count in
    let end : c.put_first.new.self.end ≡ c.self.inside.order.end = ap (λ (p : Places). p.end) c.put_first.ensures in
    rw (entries, end, places) (pushed-known known pair less (subst (λ (l : List (g.row.K.Denot × g.row.V.Denot)). IsDistinct g.K.PartialEq.eq (keys_of l)) entries c.in_ok-insert.ensures.unique))

pub returns-then-count-self-clause-list : goal.returns-then-count-self-clause-list
returns-then-count-self-clause-list g c =
    let known = c.self.invariant in
    let map = c.self.inside.map in
    let pair : g.row.K.Denot × g.row.V.Denot = (c.args.key, c.args.entry) in
    let count : c.len-count.result ≡ length map.entries = c.len-count.ensures.len ∙ ap (λ (l : List (g.row.K.Denot × g.row.V.Denot)). length l) c.in_ok-reserve.ensures.entries in
    let less : length map.entries < c.self.inside.most = omega (arith, count, c.if-count-self.true) in
    let same : c.reserve.new.self.entries ≡ c.args.self.now.pairs = c.in_ok-reserve.ensures.entries ∙ ap (λ (k : Known g.row.K.Denot g.row.V.Denot). k.pairs) c.self.view_is in
    let none : lookup (g.K.PartialEq.eq c.args.key) c.reserve.new.self.entries ≡ None = ap (λ (l : List (g.row.K.Denot × g.row.V.Denot)). lookup (g.K.PartialEq.eq c.args.key) l) same ∙ c.requires.0 in
    let entries : c.insert.new.self.entries ≡ map.entries ++ pair ∷ [] = c.in_ok-insert.ensures.entries ∙ insert_entry-new g.K.PartialEq.eq c.reserve.new.self c.args.key c.args.entry none ∙ ap (λ (l : List (g.row.K.Denot × g.row.V.Denot)). l ++ pair ∷ []) c.in_ok-reserve.ensures.entries in
    let places : c.put_first.new.self.places ≡ length map.entries ∷ c.self.inside.order.places = ap (λ (p : Places). p.places) c.put_first.ensures ∙ ap (λ (n : ℕ). n ∷ c.self.inside.order.places) count in
    (λ i. listed (entries i) (places i)) ∙ pushed-list known pair less ∙ ap (λ (k : Known g.row.K.Denot g.row.V.Denot). take k.most (pair ∷ list_of k)) c.self.view_is

pub take_out-requires : goal.take_out-requires
take_out-requires g c =
    let known = c.self.invariant in
    let map = c.self.inside.map in
    let count : c.len-count.result ≡ length map.entries = c.len-count.ensures.len ∙ ap (λ (l : List (g.row.K.Denot × g.row.V.Denot)). length l) c.in_ok-reserve.ensures.entries in
    let some = known.some in
    let long = known.count in
    let cut = end-cut c.self.inside.order.end c.self.inside.order.places (omega (arith, count, long, some, c.if-count-self.false)) in
    let at : c.self.inside.order.places ≡ cut.0 ++ c.last-last.result ∷ [] = cut.1 ∙ ap (λ (n : ℕ). cut.0 ++ n ∷ []) (sym c.last-last.ensures) in
    subst (λ (l : List ℕ). Contains l c.last-last.result) (sym at) (Contains-middle cut.0 c.last-last.result [])

pub put_first-requires-2-clause-below : goal.put_first-requires-2-clause-below
put_first-requires-2-clause-below g c =
    let known = c.self.invariant in
    let map = c.self.inside.map in
    let count : c.len-count.result ≡ length map.entries = c.len-count.ensures.len ∙ ap (λ (l : List (g.row.K.Denot × g.row.V.Denot)). length l) c.in_ok-reserve.ensures.entries in
    let some = known.some in
    let long = known.count in
    let fits = known.fits in
    let is = known.end_is in
    let cut = end-cut c.self.inside.order.end c.self.inside.order.places (omega (arith, count, long, some, c.if-count-self.false)) in
    let at : c.self.inside.order.places ≡ cut.0 ++ c.last-last.result ∷ [] = cut.1 ∙ ap (λ (n : ℕ). cut.0 ++ n ∷ []) (sym c.last-last.ensures) in
    let within = place-within known cut.0 c.last-last.result [] at in
    omega (arith, within, fits, is, c.take_out.ensures.end)

pub put_first-requires-2-clause-absent : goal.put_first-requires-2-clause-absent
put_first-requires-2-clause-absent g c there =
    let known = c.self.invariant in
    let map = c.self.inside.map in
    let count : c.len-count.result ≡ length map.entries = c.len-count.ensures.len ∙ ap (λ (l : List (g.row.K.Denot × g.row.V.Denot)). length l) c.in_ok-reserve.ensures.entries in
    let some = known.some in
    let long = known.count in
    let cut = end-cut c.self.inside.order.end c.self.inside.order.places (omega (arith, count, long, some, c.if-count-self.false)) in
    let at : c.self.inside.order.places ≡ cut.0 ++ c.last-last.result ∷ [] = cut.1 ∙ ap (λ (n : ℕ). cut.0 ++ n ∷ []) (sym c.last-last.ensures) in
    taken-absent known cut.0 c.last-last.result [] at (subst (λ (l : List ℕ). Contains l c.last-last.result) (c.take_out.ensures.places cut.0 [] at) there)

pub put_first-requires-2-clause-fits : goal.put_first-requires-2-clause-fits
put_first-requires-2-clause-fits g c =
    let known = c.self.invariant in
    let map = c.self.inside.map in
    let count : c.len-count.result ≡ length map.entries = c.len-count.ensures.len ∙ ap (λ (l : List (g.row.K.Denot × g.row.V.Denot)). length l) c.in_ok-reserve.ensures.entries in
    let some = known.some in
    let long = known.count in
    let cut = end-cut c.self.inside.order.end c.self.inside.order.places (omega (arith, count, long, some, c.if-count-self.false)) in
    let at : c.self.inside.order.places ≡ cut.0 ++ c.last-last.result ∷ [] = cut.1 ∙ ap (λ (n : ℕ). cut.0 ++ n ∷ []) (sym c.last-last.ensures) in
    rw (c.take_out.ensures.places cut.0 [] at, c.take_out.ensures.end) (taken-fits known cut.0 c.last-last.result [] at)

pub invariant_of-self-2 : goal.invariant_of-self-2
invariant_of-self-2 g c =
    let known = c.self.invariant in
    let map = c.self.inside.map in
    let pair : g.row.K.Denot × g.row.V.Denot = (c.args.key, c.args.entry) in
    let count : c.len-count.result ≡ length map.entries = c.len-count.ensures.len ∙ ap (λ (l : List (g.row.K.Denot × g.row.V.Denot)). length l) c.in_ok-reserve.ensures.entries in
    let some = known.some in
    let long = known.count in
    let cut = end-cut c.self.inside.order.end c.self.inside.order.places (omega (arith, count, long, some, c.if-count-self.false)) in
    let at : c.self.inside.order.places ≡ cut.0 ++ c.last-last.result ∷ [] = cut.1 ∙ ap (λ (n : ℕ). cut.0 ++ n ∷ []) (sym c.last-last.ensures) in
    let same : c.reserve.new.self.entries ≡ c.args.self.now.pairs = c.in_ok-reserve.ensures.entries ∙ ap (λ (k : Known g.row.K.Denot g.row.V.Denot). k.pairs) c.self.view_is in
    let none : lookup (g.K.PartialEq.eq c.args.key) c.reserve.new.self.entries ≡ None = ap (λ (l : List (g.row.K.Denot × g.row.V.Denot)). lookup (g.K.PartialEq.eq c.args.key) l) same ∙ c.requires.0 in
    let entries : c.insert.new.self.entries ≡ map.entries ++ pair ∷ [] = c.in_ok-insert.ensures.entries ∙ insert_entry-new g.K.PartialEq.eq c.reserve.new.self c.args.key c.args.entry none ∙ ap (λ (l : List (g.row.K.Denot × g.row.V.Denot)). l ++ pair ∷ []) c.in_ok-reserve.ensures.entries in
    let left = swapped known c.insert.new.self.entries c.swap_remove_index.new.self.entries pair c.last-last.result c.swap_remove_index.result entries (place-within known cut.0 c.last-last.result [] at) c.swap_remove_index.ensures.entry c.swap_remove_index.ensures.entries in
    let places : c.put_first-2.new.self.places ≡ c.last-last.result ∷ (cut.0 ++ []) = ap (λ (p : Places). p.places) c.put_first-2.ensures ∙ ap (λ (l : List ℕ). c.last-last.result ∷ l) (c.take_out.ensures.places cut.0 [] at) in
    let end : c.put_first-2.new.self.end ≡ c.self.inside.order.end = ap (λ (p : Places). p.end) c.put_first-2.ensures ∙ c.take_out.ensures.end in
    rw (left, end, places) (used-known known cut.0 c.last-last.result [] at (slice_set map.entries c.last-last.result pair) (length-set map.entries c.last-last.result pair)
    (subst (λ (l : List (g.row.K.Denot × g.row.V.Denot)). IsDistinct g.K.PartialEq.eq (keys_of l)) left c.swap_remove_index.ensures.unique))

pub returns-clause-list : goal.returns-clause-list
returns-clause-list g c =
    let known = c.self.invariant in
    let map = c.self.inside.map in
    let pair : g.row.K.Denot × g.row.V.Denot = (c.args.key, c.args.entry) in
    let count : c.len-count.result ≡ length map.entries = c.len-count.ensures.len ∙ ap (λ (l : List (g.row.K.Denot × g.row.V.Denot)). length l) c.in_ok-reserve.ensures.entries in
    let some = known.some in
    let long = known.count in
    let fits = known.fits in
    let full : c.self.inside.most ≡ length map.entries = omega (arith, count, fits, c.if-count-self.false) in
    let cut = end-cut c.self.inside.order.end c.self.inside.order.places (omega (arith, count, long, some, c.if-count-self.false)) in
    let at : c.self.inside.order.places ≡ cut.0 ++ c.last-last.result ∷ [] = cut.1 ∙ ap (λ (n : ℕ). cut.0 ++ n ∷ []) (sym c.last-last.ensures) in
    let same : c.reserve.new.self.entries ≡ c.args.self.now.pairs = c.in_ok-reserve.ensures.entries ∙ ap (λ (k : Known g.row.K.Denot g.row.V.Denot). k.pairs) c.self.view_is in
    let none : lookup (g.K.PartialEq.eq c.args.key) c.reserve.new.self.entries ≡ None = ap (λ (l : List (g.row.K.Denot × g.row.V.Denot)). lookup (g.K.PartialEq.eq c.args.key) l) same ∙ c.requires.0 in
    let entries : c.insert.new.self.entries ≡ map.entries ++ pair ∷ [] = c.in_ok-insert.ensures.entries ∙ insert_entry-new g.K.PartialEq.eq c.reserve.new.self c.args.key c.args.entry none ∙ ap (λ (l : List (g.row.K.Denot × g.row.V.Denot)). l ++ pair ∷ []) c.in_ok-reserve.ensures.entries in
    let left = swapped known c.insert.new.self.entries c.swap_remove_index.new.self.entries pair c.last-last.result c.swap_remove_index.result entries (place-within known cut.0 c.last-last.result [] at) c.swap_remove_index.ensures.entry c.swap_remove_index.ensures.entries in
    let places : c.put_first-2.new.self.places ≡ c.last-last.result ∷ (cut.0 ++ []) = ap (λ (p : Places). p.places) c.put_first-2.ensures ∙ ap (λ (l : List ℕ). c.last-last.result ∷ l) (c.take_out.ensures.places cut.0 [] at) in
    (λ i. listed (left i) (places i)) ∙ evicted-list known pair cut.0 c.last-last.result at full ∙ ap (λ (k : Known g.row.K.Denot g.row.V.Denot). take k.most (pair ∷ list_of k)) c.self.view_is

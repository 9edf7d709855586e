-- The entry is written, and the place comes to the front.
use Rattle.std.proofs.Common.{rules, ◌≡◌, ◌∙◌, ◌<◌, ℕ, List, [], ◌∷◌, ◌++◌, length, take, slice_get, arith, sym, ap, subst, Contains}
use Rattle.std.specs.List.{IsDistinct}
use Rattle.std.specs.Map.{remove_entry}
use Rattle.indexmap.specs.IndexMap.{set_value_at}
use Rattle.indexmap.proofs.CallerLemmas.{keys-with_value_at, index_map_len-with_value_at}
use Rattle.scr_flows.specs.Flows.{Known, listed, list_of}
use Rattle.scr_flows.specs.Order.{Places}
use Rattle.scr_flows.proofs.Kept.{cut-at, first-cut, taken-absent, taken-fits, used-known, used-taken}
use Rattle.scr_flows.proofs.flows.Flows.use_at.Goals as goal

pub put_first-requires-clause-absent : goal.put_first-requires-clause-absent
put_first-requires-clause-absent g c there =
    let pairs = ap (λ (k : Known g.row.K.Denot g.row.V.Denot). k.pairs) c.self.view_is in
    let less : c.args.place < length c.self.inside.map.entries = subst (λ (l : List (g.row.K.Denot × g.row.V.Denot)). c.args.place < length l) (sym pairs) c.requires in
    let cut = cut-at c.self.invariant c.args.place less in
    let rest = c.take_out.ensures.places cut.0 cut.1 cut.2 in
    taken-absent c.self.invariant cut.0 c.args.place cut.1 cut.2 (subst (λ (l : List ℕ). Contains l c.args.place) rest there)

pub put_first-requires-clause-fits : goal.put_first-requires-clause-fits
put_first-requires-clause-fits g c =
    let pairs = ap (λ (k : Known g.row.K.Denot g.row.V.Denot). k.pairs) c.self.view_is in
    let less : c.args.place < length c.self.inside.map.entries = subst (λ (l : List (g.row.K.Denot × g.row.V.Denot)). c.args.place < length l) (sym pairs) c.requires in
    let cut = cut-at c.self.invariant c.args.place less in
    let rest = c.take_out.ensures.places cut.0 cut.1 cut.2 in
    rw (rest, c.take_out.ensures.end) (taken-fits c.self.invariant cut.0 c.args.place cut.1 cut.2)

pub invariant_of-self : goal.invariant_of-self
invariant_of-self g c =
    let known = c.self.invariant in
    let map = c.self.inside.map in
    let pairs = ap (λ (k : Known g.row.K.Denot g.row.V.Denot). k.pairs) c.self.view_is in
    let less : c.args.place < length map.entries = subst (λ (l : List (g.row.K.Denot × g.row.V.Denot)). c.args.place < length l) (sym pairs) c.requires in
    let cut = cut-at known c.args.place less in
    let places : c.put_first.new.self.places ≡ c.args.place ∷ (cut.0 ++ cut.1) = ap (λ (p : Places). p.places) c.put_first.ensures ∙ ap (λ (l : List ℕ). c.args.place ∷ l) (c.take_out.ensures.places cut.0 cut.1 cut.2) in
    let end : c.put_first.new.self.end ≡ c.self.inside.order.end = ap (λ (p : Places). p.end) c.put_first.ensures ∙ c.take_out.ensures.end in
    rw (end, places) (used-known known cut.0 c.args.place cut.1 cut.2 (set_value_at map.entries c.args.place c.args.entry) (index_map_len-with_value_at map c.args.place c.args.entry)
    (subst (IsDistinct g.K.PartialEq.eq) (sym (keys-with_value_at map c.args.place c.args.entry)) known.distinct))

pub invariant_of-self-else-place-first : goal.invariant_of-self-else-place-first
invariant_of-self-else-place-first g c =
    let known = c.self.invariant in
    let map = c.self.inside.map in
    let pairs = ap (λ (k : Known g.row.K.Denot g.row.V.Denot). k.pairs) c.self.view_is in
    let less : c.args.place < length map.entries = subst (λ (l : List (g.row.K.Denot × g.row.V.Denot)). c.args.place < length l) (sym pairs) c.requires in
    let is : c.args.place ≡ c.first.result = search rules in
    let fits = known.fits in
    let last = known.end_is in
    let cut = first-cut c.self.inside.order.places c.self.inside.order.end c.args.place (is ∙ c.first.ensures) (omega (arith, less, fits, last)) in
    rw cut.1 (used-known known [] c.args.place cut.0 cut.1 (set_value_at map.entries c.args.place c.args.entry) (index_map_len-with_value_at map c.args.place c.args.entry)
    (subst (IsDistinct g.K.PartialEq.eq) (sym (keys-with_value_at map c.args.place c.args.entry)) known.distinct))

pub returns-then-place-first-clause-list : goal.returns-then-place-first-clause-list
returns-then-place-first-clause-list g c pair at =
    let known = c.self.invariant in
    let map = c.self.inside.map in
    let pairs = ap (λ (k : Known g.row.K.Denot g.row.V.Denot). k.pairs) c.self.view_is in
    let less : c.args.place < length map.entries = subst (λ (l : List (g.row.K.Denot × g.row.V.Denot)). c.args.place < length l) (sym pairs) c.requires in
    let cut = cut-at known c.args.place less in
    let places : c.put_first.new.self.places ≡ c.args.place ∷ (cut.0 ++ cut.1) = ap (λ (p : Places). p.places) c.put_first.ensures ∙ ap (λ (l : List ℕ). c.args.place ∷ l) (c.take_out.ensures.places cut.0 cut.1 cut.2) in
    ap (λ (l : List ℕ). listed (set_value_at map.entries c.args.place c.args.entry) l) places
    ∙ used-taken known cut.0 c.args.place cut.1 cut.2 g.met.K.Eq.laws pair c.args.entry (ap (λ (l : List (g.row.K.Denot × g.row.V.Denot)). slice_get l c.args.place) pairs ∙ at)
    (index_map_len-with_value_at map c.args.place c.args.entry) (subst (IsDistinct g.K.PartialEq.eq) (sym (keys-with_value_at map c.args.place c.args.entry)) known.distinct)
    ∙ ap (λ (k : Known g.row.K.Denot g.row.V.Denot). take k.most ((pair.0, c.args.entry) ∷ remove_entry (g.K.PartialEq.eq pair.0) (list_of k))) c.self.view_is

pub returns-else-place-first-clause-list : goal.returns-else-place-first-clause-list
returns-else-place-first-clause-list g c pair at =
    let known = c.self.invariant in
    let map = c.self.inside.map in
    let pairs = ap (λ (k : Known g.row.K.Denot g.row.V.Denot). k.pairs) c.self.view_is in
    let less : c.args.place < length map.entries = subst (λ (l : List (g.row.K.Denot × g.row.V.Denot)). c.args.place < length l) (sym pairs) c.requires in
    let is : c.args.place ≡ c.first.result = search rules in
    let fits = known.fits in
    let last = known.end_is in
    let cut = first-cut c.self.inside.order.places c.self.inside.order.end c.args.place (is ∙ c.first.ensures) (omega (arith, less, fits, last)) in
    ap (λ (l : List ℕ). listed (set_value_at map.entries c.args.place c.args.entry) l) cut.1
    ∙ used-taken known [] c.args.place cut.0 cut.1 g.met.K.Eq.laws pair c.args.entry (ap (λ (l : List (g.row.K.Denot × g.row.V.Denot)). slice_get l c.args.place) pairs ∙ at)
    (index_map_len-with_value_at map c.args.place c.args.entry) (subst (IsDistinct g.K.PartialEq.eq) (sym (keys-with_value_at map c.args.place c.args.entry)) known.distinct)
    ∙ ap (λ (k : Known g.row.K.Denot g.row.V.Denot). take k.most ((pair.0, c.args.entry) ∷ remove_entry (g.K.PartialEq.eq pair.0) (list_of k))) c.self.view_is

-- As many flows as places, each once.
use Rattle.std.proofs.Common.{◌∙◌, length, sym, ap, subst}
use Rattle.std.specs.List.{IsDistinct}
use Rattle.std.specs.Map.{keys_of}
use Rattle.scr_flows.specs.Flows.{Known, list_of}
use Rattle.scr_flows.proofs.Kept.{length-known}
use Rattle.scr_flows.proofs.Listed.{distinct-listed}
use Rattle.scr_flows.proofs.flows.Flows.len.Goals as goal

pub returns-clause-len : goal.returns-clause-len
returns-clause-len g c =
    let known = c.self.invariant in
    c.len.ensures ∙ known.count ∙ sym (length-known known) ∙ ap (λ (k : Known g.row.K.Denot g.row.V.Denot). length (list_of k)) c.self.view_is

pub returns-clause-distinct : goal.returns-clause-distinct
returns-clause-distinct g c =
    let known = c.self.invariant in
    subst (λ (k : Known g.row.K.Denot g.row.V.Denot). IsDistinct g.K.PartialEq.eq (keys_of (list_of k))) c.self.view_is
    (distinct-listed g.met.K.Eq.laws c.self.inside.map.entries known.distinct c.self.inside.order.places known.apart)

-- The link of the bound to the newer leads to the last place.
use Rattle.std.proofs.Common.{◌∙◌, arith}
use Rattle.std.proofs.lemmas.List.{get_or_read}
use Rattle.scr_flows.specs.Ring.{last_or}
use Rattle.scr_flows.proofs.Rings.{ring-last}
use Rattle.scr_flows.proofs.order.Order.last.Goals as goal

pub returns : goal.returns
returns c =
    let ring = c.self.invariant in
    let long = ring.newer_len in
    get_or_read c.self.inside.newer.items c.self.inside.end c.index.result.now (omega arith) c.index.ensures 0 ∙ ring-last ring ∙ (λ i. last_or (c.self.view_is i).end (c.self.view_is i).places)

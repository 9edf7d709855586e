-- The key there is the one of its flow.
use Rattle.std.proofs.Common.{◌≡◌, ◌∙◌, Some, true, slice_get, sym, subst}
use Rattle.std.proofs.lemmas.Option.{slice_get_within}
use Rattle.scr_flows.specs.Flows.{Known, IsAt}
use Rattle.scr_flows.proofs.Kept.{at-known}
use Rattle.scr_flows.proofs.flows.Flows.is_at.Goals as goal

pub returns-in-Some : goal.returns-in-Some
returns-in-Some g c h =
    let pair : g.row.K.Denot × g.row.V.Denot = (c.in-Some.held.now, c.in-Some.field-0-1.now) in
    let at : slice_get c.self.inside.map.entries c.args.place ≡ Some pair = sym c.in-Some.ensures.entry in
    let passes : g.K.PartialEq.eq c.args.key.now pair.0 ≡ true = g.met.K.Eq.laws.symm c.args.key.now pair.0 ∙ sym c.eq.ensures ∙ h in
    let less = slice_get_within c.self.inside.map.entries c.args.place pair at in
    subst (λ (k : Known g.row.K.Denot g.row.V.Denot). IsAt g.K.PartialEq.eq k c.args.key.now c.args.place) c.self.view_is
    (pair, at, passes, at-known c.self.invariant g.met.K.Eq.laws c.args.key.now c.args.place pair at less passes)

-- The map has each flow's key at its place.
use Rattle.std.proofs.Common.{subst}
use Rattle.std.specs.Option.{MatchOption}
use Rattle.scr_flows.specs.Flows.{Known, IsAbsent, IsAt}
use Rattle.scr_flows.proofs.Kept.{place-known}
use Rattle.scr_flows.proofs.flows.Flows.place_of.Goals as goal

pub returns : goal.returns
returns g c =
    subst (λ (k : Known g.row.K.Denot g.row.V.Denot). MatchOption c.get_index_of.result (IsAbsent g.K.PartialEq.eq k c.args.key.now) (IsAt g.K.PartialEq.eq k c.args.key.now)) c.self.view_is
    (place-known c.self.invariant g.met.K.Eq.laws c.args.key.now c.get_index_of.result c.get_index_of.ensures.index)

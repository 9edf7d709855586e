-- The entry that was made goes to the place that was found.
use Rattle.std.proofs.Common.{◌≡◌, ◌∙◌, List, Option, ap, subst}
use Rattle.std.specs.Map.{lookup}
use Rattle.scr_flows.specs.Flows.{list_of}
use Rattle.scr_program.specs.FlowList.{set_key}
use Rattle.scr_program.specs.FlowTable.{Table}
use Rattle.scr_program.proofs.NewEntry.{entry-known}
use Rattle.scr_program.proofs.table.FlowTable.update.Goals as goal

pub returns-clause-updated : goal.returns-clause-updated
returns-clause-updated g c =
    let flows = c.self.inside.flows in
    let key = c.args.key.now in
    let list : list_of flows ≡ c.args.self.now.list = ap (λ (t : Table g.row.K.Denot g.row.V.Denot). t.list) c.self.view_is in
    let most : flows.most ≡ c.args.self.now.flows = ap (λ (t : Table g.row.K.Denot g.row.V.Denot). t.flows) c.self.view_is in
    let found = entry-known g.K.PartialEq.eq flows key c.find-place.result c.entry_at.result c.find-place.ensures c.entry_at.ensures in
    let was = found ∙ ap (λ (l : List (g.row.K.Denot × g.row.V.Denot)). lookup (g.K.PartialEq.eq key) l) list in
    let made = subst (λ (known : Option g.row.V.Denot). g.F.FnOnce.post c.args.next (known, tt) c.next-entry.result) was c.next-entry.ensures in
    (c.next-entry.result.0, made, c.in_ok-self-inside.ensures.set ∙ (λ i. set_key g.K.PartialEq.eq (most i) (list i) key c.next-entry.result.0))

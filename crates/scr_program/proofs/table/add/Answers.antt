-- A new key takes nothing away.
use Rattle.std.proofs.Common.{◌≡◌, List, OnOk, subst}
use Rattle.scr_flows.specs.Flows.{list_of}
use Rattle.scr_program.proofs.NewEntry.{set-new}
use Rattle.scr_program.proofs.table.add.Goals as goal

pub returns-clause-set : goal.returns-clause-set
returns-clause-set g c =
    let set = set-new g.K.PartialEq.eq c.args.flows.now.most (list_of c.args.flows.now) c.args.key c.args.entry c.requires.1 in
    subst (λ (list : List (g.row.K.Denot × g.row.V.Denot)). OnOk c.add.result (list_of c.add.new.self ≡ list)) set c.add.ensures.list

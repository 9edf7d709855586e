-- After a step the table stands for one row more, and the answer is that row's verdict.
use Rattle.std.proofs.Common.{◌≡◌, ◌∙◌, true, false, refl}
use Rattle.scr_program.specs.Keyed.{keyed_step}
use Rattle.scr_program.proofs.Entering.{step-other, step-enters}
use Rattle.scr_program.proofs.Folds.{taken-verdict, taken-stands, Stands-verdict, Stands-push}
use Rattle.scr_program.proofs.keyed.AnyProgram.step.Goals as goal

pub returns-then-not-looks_at-clause-verdict : goal.returns-then-not-looks_at-clause-verdict
returns-then-not-looks_at-clause-verdict g c rows stands =
    let most = g.P.Keyed.most c.args.settings.now in
    let outcome = g.P.Keyed.outcome c.args.settings.now in
    let step = keyed_step g.P.Key.PartialEq.eq g.P.Keyed.is_looked_at g.P.Keyed.key_of most outcome g.P.Keyed.other in
    let looked : false ≡ g.P.Keyed.is_looked_at c.unpack-fields.result.kind = cc in
    let taken = step-other g.P.Key.PartialEq.eq g.P.Keyed.is_looked_at g.P.Keyed.key_of most outcome g.P.Keyed.other c.args.row.now c.unpack-fields.result c.unpack-fields.ensures c.args.table.now.list looked in
    c.passed_over.ensures ∙ taken-verdict step most c.args.table.now c.args.table.now c.args.row.now refl rows stands g.P.Keyed.other taken

pub returns-then-not-looks_at-clause-stands : goal.returns-then-not-looks_at-clause-stands
returns-then-not-looks_at-clause-stands g c rows stands =
    let most = g.P.Keyed.most c.args.settings.now in
    let outcome = g.P.Keyed.outcome c.args.settings.now in
    let step = keyed_step g.P.Key.PartialEq.eq g.P.Keyed.is_looked_at g.P.Keyed.key_of most outcome g.P.Keyed.other in
    let looked : false ≡ g.P.Keyed.is_looked_at c.unpack-fields.result.kind = cc in
    let taken = step-other g.P.Key.PartialEq.eq g.P.Keyed.is_looked_at g.P.Keyed.key_of most outcome g.P.Keyed.other c.args.row.now c.unpack-fields.result c.unpack-fields.ensures c.args.table.now.list looked in
    taken-stands step most c.args.table.now c.args.table.now c.args.row.now refl rows stands g.P.Keyed.other taken

pub returns-clause-verdict : goal.returns-clause-verdict
returns-clause-verdict g c rows stands =
    let most = g.P.Keyed.most c.args.settings.now in
    let outcome = g.P.Keyed.outcome c.args.settings.now in
    let step = keyed_step g.P.Key.PartialEq.eq g.P.Keyed.is_looked_at g.P.Keyed.key_of most outcome g.P.Keyed.other in
    let looked : true ≡ g.P.Keyed.is_looked_at c.unpack-fields.result.kind = cc in
    let taken = step-enters g.P.Key.PartialEq.eq g.P.Keyed.is_looked_at g.P.Keyed.key_of most outcome g.P.Keyed.other c.args.row.now c.unpack-fields.result c.unpack-fields.ensures c.args.table.now c.enter.new.table c.key.result c.enter.result looked stands.0 c.key.ensures c.enter.ensures.entered in
    Stands-verdict step most c.args.table.now c.enter.new.table c.args.row.now c.enter.result c.enter.ensures.flows taken rows stands

pub returns-clause-stands : goal.returns-clause-stands
returns-clause-stands g c rows stands =
    let most = g.P.Keyed.most c.args.settings.now in
    let outcome = g.P.Keyed.outcome c.args.settings.now in
    let step = keyed_step g.P.Key.PartialEq.eq g.P.Keyed.is_looked_at g.P.Keyed.key_of most outcome g.P.Keyed.other in
    let looked : true ≡ g.P.Keyed.is_looked_at c.unpack-fields.result.kind = cc in
    let taken = step-enters g.P.Key.PartialEq.eq g.P.Keyed.is_looked_at g.P.Keyed.key_of most outcome g.P.Keyed.other c.args.row.now c.unpack-fields.result c.unpack-fields.ensures c.args.table.now c.enter.new.table c.key.result c.enter.result looked stands.0 c.key.ensures c.enter.ensures.entered in
    Stands-push step most c.args.table.now c.enter.new.table c.args.row.now c.enter.result c.enter.ensures.flows taken rows stands

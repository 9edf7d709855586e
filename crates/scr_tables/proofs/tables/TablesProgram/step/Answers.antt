-- After a step the table stands for one row more.
use Rattle.std.proofs.Common.{ℕ, List, sym, subst}
use Rattle.scr_program.specs.declared.fields.Address.{Address}
use Rattle.scr_program.proofs.Folds.{Stands-push, Stands-verdict}
use Rattle.scr_tables.specs.Held.{AreHeld}
use Rattle.scr_tables.specs.Step.{step}
use Rattle.scr_tables.proofs.Held.{rows-held}
use Rattle.scr_tables.proofs.tables.TablesProgram.step.Goals as goal

pub returns-clause-verdict : goal.returns-clause-verdict
returns-clause-verdict c rows stands =
    let held : AreHeld c.args.settings.now.table c.args.state.now.list =
    subst (λ (flows : List (Address × ℕ)). AreHeld c.args.settings.now.table flows) (sym stands.1) (rows-held c.args.settings.now rows) in
    Stands-verdict (step c.args.settings.now) c.args.settings.now.flows c.args.state.now c.answer.new.flows c.args.row.now c.answer.result c.answer.ensures.flows (c.answer.ensures.taken held stands.0) rows stands

pub returns-clause-stands : goal.returns-clause-stands
returns-clause-stands c rows stands =
    let held : AreHeld c.args.settings.now.table c.args.state.now.list =
    subst (λ (flows : List (Address × ℕ)). AreHeld c.args.settings.now.table flows) (sym stands.1) (rows-held c.args.settings.now rows) in
    Stands-push (step c.args.settings.now) c.args.settings.now.flows c.args.state.now c.answer.new.flows c.args.row.now c.answer.result c.answer.ensures.flows (c.answer.ensures.taken held stands.0) rows stands

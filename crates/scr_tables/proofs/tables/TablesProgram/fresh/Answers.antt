-- A new table stands for no rows.
use Rattle.scr_program.proofs.Folds.{Stands-fresh}
use Rattle.scr_tables.specs.Step.{step}
use Rattle.scr_tables.proofs.tables.TablesProgram.fresh.Goals as goal

pub returns : goal.returns
returns c = Stands-fresh (step c.args.settings.now) c.args.settings.now.flows c.make.result c.make.ensures.table

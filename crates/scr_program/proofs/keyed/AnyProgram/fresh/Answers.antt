-- A new table stands for no rows.
use Rattle.scr_program.proofs.Folds.{Stands-fresh}
use Rattle.scr_program.specs.Keyed.{keyed_step}
use Rattle.scr_program.proofs.keyed.AnyProgram.fresh.Goals as goal

pub returns : goal.returns
returns g c = Stands-fresh (keyed_step g.P.Key.PartialEq.eq g.P.Keyed.is_looked_at g.P.Keyed.key_of (g.P.Keyed.most c.args.settings.now) (g.P.Keyed.outcome c.args.settings.now) g.P.Keyed.other) (g.P.Keyed.most c.args.settings.now) c.make.result (rw (← c.most_flows.ensures.most) c.make.ensures.table)

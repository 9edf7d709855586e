use Rattle.scr_program.specs.Rows.{source_in, unpacked}
use Rattle.scr_tables.proofs.Held.{rule-found}
use Rattle.scr_tables.proofs.laws.some_rule.Goals as goal

pub returns : goal.returns
returns c = λ settings rows row. rule-found settings rows (source_in row) (unpacked row)

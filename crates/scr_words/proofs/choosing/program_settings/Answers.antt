use Rattle.std.proofs.Common.{sym, ap, ◌∙◌}
use Rattle.scr_words.specs.declared.program_name.Choice.{Choice}
use Rattle.scr_words.proofs.FaultlessWords.{lacks-program}
use Rattle.scr_words.proofs.choosing.program_settings.Goals as goal

pub returns-in-None : goal.returns-in-None
returns-in-None c = lacks-program c.args.tested.command c.args.tested.operands.now c.requires.values (ap (λ (choice : Choice). choice.program) (sym c.chosen-choice.ensures) ∙ c.in-None.is)

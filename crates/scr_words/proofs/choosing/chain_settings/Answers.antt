use Rattle.std.proofs.Common.{sym, ap, ◌∙◌}
use Rattle.scr_words.specs.declared.program_name.Choice.{Choice}
use Rattle.scr_words.proofs.FaultlessWords.{lacks-first, lacks-second}
use Rattle.scr_words.proofs.choosing.chain_settings.Goals as goal

pub returns-in_err-choice : goal.returns-in_err-choice
returns-in_err-choice c =
    let is = ap (λ (choice : Choice). choice.program) (sym c.requires.choice) ∙ c.requires.program in
    let none = ap (λ (choice : Choice). choice.first) (sym c.requires.choice) ∙ c.in_err-choice.was in
    rw c.from_residual.ensures (lacks-first c.args.tested.command c.args.tested.operands.now c.requires.values is none)

pub returns-in_err-choice-2 : goal.returns-in_err-choice-2
returns-in_err-choice-2 c =
    let is = ap (λ (choice : Choice). choice.program) (sym c.requires.choice) ∙ c.requires.program in
    let none = ap (λ (choice : Choice). choice.second) (sym c.requires.choice) ∙ c.in_err-choice-2.was in
    rw c.from_residual-in_err-choice-2.ensures (lacks-second c.args.tested.command c.args.tested.operands.now c.requires.values is none)

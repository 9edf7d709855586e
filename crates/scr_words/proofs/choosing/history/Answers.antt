use Rattle.std.proofs.Common.{◌≡◌, ℕ, List, Some, refl, sym, ap, ◌∙◌}
use Rattle.std.specs.Prelude.{option_copied}
use Rattle.scr_words.specs.declared.operand.Operand.TheVariants.{History}
use Rattle.scr_words.specs.Operands.{line_of}
use Rattle.scr_words.specs.WordParts.{given}
use Rattle.scr_words.proofs.FaultlessValues.{number_fault-none}
use Rattle.scr_words.proofs.choosing.history.Goals as goal

pub spelled-requires-clause-faultless : goal.spelled-requires-clause-faultless
spelled-requires-clause-faultless c =
    let found : given (line_of History).name c.args.tested.operands.now ≡ Some c.in-Some.text.now =
    ap (λ (name : List ℕ). given name c.args.tested.operands.now) (sym c.line.ensures.name) ∙ sym c.given.ensures ∙ ap option_copied c.in-Some.is in
    number_fault-none c.args.tested.command (line_of History).form c.in-Some.text.now refl (c.requires.values History c.in-Some.text.now found)

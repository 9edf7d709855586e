use Rattle.std.proofs.Common.{◌≡◌, ℕ, List, Some, sym, ap, ◌∙◌}
use Rattle.std.specs.Prelude.{option_copied}
use Rattle.scr_words.specs.declared.operand.Operand.TheVariants.{Table}
use Rattle.scr_words.specs.Operands.{line_of}
use Rattle.scr_words.specs.WordParts.{given}
use Rattle.scr_words.proofs.TextFaults.{table_fault-refused}
use Rattle.scr_words.proofs.choosing.table_settings.Goals as goal

pub unreachable-requires : goal.unreachable-requires
unreachable-requires c =
    let found : given (line_of Table).name c.args.tested.operands.now ≡ Some c.in-Some.text.now =
    ap (λ (name : List ℕ). given name c.args.tested.operands.now) (sym c.line.ensures.name) ∙ sym c.given.ensures ∙ ap option_copied c.in-Some.is in
    let refused = rw c.in-Err-Refused.field-0-is at c.in-Err-Refused.ensures in
    let fault = table_fault-refused c.in-Some.text.now c.in-Err-Refused.field-0-0 c.in-Err-Refused.field-0-1 refused in
    absurd (cc (c.requires.values Table c.in-Some.text.now found, fault))

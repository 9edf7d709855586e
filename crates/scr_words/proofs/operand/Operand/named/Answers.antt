use Rattle.std.proofs.Common.{◌≡◌, rules, tests, ◌∙◌, Bor}
use Rattle.std.specs.List.{find}
use Rattle.std.specs.Prelude.{option_map}
use Rattle.std.specs.Str.{bytes_eq}
use Rattle.std.proofs.lemmas.Iterator.{YieldsList-from_slice}
use Rattle.std.proofs.lemmas.Iterator.Search.{find_from_yields_List}
use Rattle.scr_words.specs.declared.operand.Operand.{Operand}
use Rattle.scr_words.specs.Operands.{operand_named, line_of, all_operands}
use Rattle.scr_words.proofs.operand.Operand.named.Goals as goal

pub returns : goal.returns
unfolding operand_named
returns c =
    let found : option_map (λ (y : Bor Operand). y.now) c.find.result ≡ find (λ operand. bytes_eq (line_of operand).name c.args.name.now) all_operands =
    find_from_yields_List (λ operand. bytes_eq (line_of operand).name c.args.name.now) _ _ c.find.result c.find.ensures.ran
    (YieldsList-from_slice all_operands c.iter.ensures.rest) (λ x b q k. search (rules, tests)) in
    c.copied.ensures ∙ found

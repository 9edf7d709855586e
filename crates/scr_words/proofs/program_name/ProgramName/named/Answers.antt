use Rattle.std.proofs.Common.{◌≡◌, ◌&&◌, rules, tests, ◌∙◌, Bor}
use Rattle.std.specs.List.{find}
use Rattle.std.specs.Prelude.{option_map}
use Rattle.std.specs.Str.{bytes_eq}
use Rattle.std.proofs.lemmas.Iterator.{YieldsList-from_slice}
use Rattle.std.proofs.lemmas.Iterator.Search.{find_from_yields_List}
use Rattle.scr_words.specs.declared.program_name.ProgramName.{ProgramName}
use Rattle.scr_words.specs.Operands.{program_named, program_name, knows, all_programs}
use Rattle.scr_words.proofs.program_name.ProgramName.named.Goals as goal

pub returns : goal.returns
unfolding program_named
returns c =
    let found : option_map (λ (y : Bor ProgramName). y.now) c.find.result ≡ find (λ program. knows c.args.command program && bytes_eq (program_name program) c.args.name.now) all_programs =
    find_from_yields_List (λ program. knows c.args.command program && bytes_eq (program_name program) c.args.name.now) _ _ c.find.result c.find.ensures.ran
    (YieldsList-from_slice all_programs c.iter.ensures.rest) (λ x b q k. search (rules, tests)) in
    c.copied.ensures ∙ found

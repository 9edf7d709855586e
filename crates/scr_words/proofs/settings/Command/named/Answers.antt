use Rattle.std.proofs.Common.{◌≡◌, rules, tests, ◌∙◌, Bor}
use Rattle.std.specs.List.{find}
use Rattle.std.specs.Prelude.{option_map}
use Rattle.std.specs.Str.{bytes_eq}
use Rattle.std.proofs.lemmas.Iterator.{YieldsList-from_slice}
use Rattle.std.proofs.lemmas.Iterator.Search.{find_from_yields_List}
use Rattle.scr_words.specs.declared.settings.Command.{Command}
use Rattle.scr_words.specs.Operands.{command_named, command_name, all_commands}
use Rattle.scr_words.proofs.settings.Command.named.Goals as goal

pub returns : goal.returns
unfolding command_named
returns c =
    let found : option_map (λ (y : Bor Command). y.now) c.find.result ≡ find (λ command. bytes_eq (command_name command) c.args.name.now) all_commands =
    find_from_yields_List (λ command. bytes_eq (command_name command) c.args.name.now) _ _ c.find.result c.find.ensures.ran
    (YieldsList-from_slice all_commands c.iter.ensures.rest) (λ x b q k. search (rules, tests)) in
    c.copied.ensures ∙ found

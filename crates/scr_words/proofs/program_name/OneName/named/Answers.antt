use Rattle.std.proofs.Common.{◌≡◌, rules, tests, ◌∙◌, Bor}
use Rattle.std.specs.List.{find}
use Rattle.std.specs.Prelude.{option_map}
use Rattle.std.specs.Str.{bytes_eq}
use Rattle.std.proofs.lemmas.Iterator.{YieldsList-from_slice}
use Rattle.std.proofs.lemmas.Iterator.Search.{find_from_yields_List}
use Rattle.scr_words.specs.declared.program_name.OneName.{OneName}
use Rattle.scr_words.specs.Operands.{one_named, one_name}
use Rattle.scr_words.proofs.program_name.OneName.named.Goals as goal

pub returns : goal.returns
unfolding one_named
returns c =
    let found : option_map (λ (y : Bor OneName). y.now) c.find.result ≡ find (λ one. bytes_eq (one_name one) c.args.name.now) c.args.ones.now =
    find_from_yields_List (λ one. bytes_eq (one_name one) c.args.name.now) _ _ c.find.result c.find.ensures.ran
    (YieldsList-from_slice c.args.ones.now c.iter.ensures.rest) (λ x b q k. search (rules, tests)) in
    c.copied.ensures ∙ found

use Rattle.std.proofs.Common.{◌≡◌, List, ℕ, Some, rules, tests, sym, ap, ◌∙◌, Bor}
use Rattle.std.specs.List.{find}
use Rattle.std.specs.Prelude.{option_map}
use Rattle.std.proofs.lemmas.Iterator.{YieldsList-from_slice}
use Rattle.std.proofs.lemmas.Iterator.Search.{find_from_yields_List}
use Rattle.scr_words.specs.WordParts.{value_in, is_named, given}
use Rattle.scr_words.proofs.parts.given.Goals as goal

pub returns : goal.returns
unfolding given
returns c =
    let found : option_map (λ (y : Bor (List ℕ)). y.now) c.find.result ≡ find (is_named c.args.name.now) c.args.words.now =
    find_from_yields_List (is_named c.args.name.now) _ _ c.find.result c.find.ensures.ran
    (YieldsList-from_slice c.args.words.now c.iter.ensures.rest) (λ x b q k. search (rules, tests)) in
    let first : find (is_named c.args.name.now) c.args.words.now ≡ Some c.in_ok-word.word.now =
    sym found ∙ ap (option_map (λ (y : Bor (List ℕ)). y.now)) c.in_ok-word.was in
    let value : c.in_ok-value.value.now ≡ value_in c.in_ok-word.word.now = c.in_ok-value.ensures.back_is ∙ ap value_in c.bytes.ensures in
    rw first (ap Some value)

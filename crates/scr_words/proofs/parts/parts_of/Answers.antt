use Rattle.std.proofs.Common.{◌≡◌, eqb, rules, tests, sym, ◌∙◌}
use Rattle.std.proofs.lemmas.Iterator.{YieldsList-from_slice}
use Rattle.std.proofs.lemmas.Iterator.Search.{position_from_yields_List}
use Rattle.scr_plan.proofs.Cuts.{first_place, has_byte-none, IsCut-some}
use Rattle.scr_words.proofs.parts.parts_of.Goals as goal

pub returns-in_err-at : goal.returns-in_err-at
returns-in_err-at c =
    let found : c.position.result ≡ first_place 61 c.args.word.now =
    position_from_yields_List (λ byte. eqb byte 61) _ _ c.position.result c.position.ensures.ran
    (YieldsList-from_slice c.args.word.now c.iter.ensures.rest) (λ x b q k. search (rules, tests)) in
    rw c.from_residual.ensures (has_byte-none 61 c.args.word.now (sym c.in_err-at.was ∙ found))

pub returns : goal.returns
returns c =
    let found : c.position.result ≡ first_place 61 c.args.word.now =
    position_from_yields_List (λ byte. eqb byte 61) _ _ c.position.result c.position.ensures.ran
    (YieldsList-from_slice c.args.word.now c.iter.ensures.rest) (λ x b q k. search (rules, tests)) in
    IsCut-some 61 c.args.word.now c.in_ok-at.at (sym c.in_ok-at.was ∙ found)

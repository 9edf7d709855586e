-- The two parts of a text, by the place of its first mark.
use Rattle.std.proofs.Common.{◌≡◌, eqb, rules, tests, sym, ◌∙◌}
use Rattle.std.specs.List.{position}
use Rattle.std.proofs.lemmas.Iterator.{YieldsList-from_slice}
use Rattle.std.proofs.lemmas.Iterator.Search.{position_from_yields_List}
use Rattle.scr_tables.proofs.Cuts.{take-at, take-drop-at, before-none, after-none}
use Rattle.scr_tables.proofs.reading.cut.Goals as goal

pub returns-in-Some-clause-front : goal.returns-in-Some-clause-front
returns-in-Some-clause-front c =
    let found : c.position.result ≡ position (λ byte. eqb byte c.args.mark) c.args.text.now =
    position_from_yields_List (λ byte. eqb byte c.args.mark) _ _ c.position.result c.position.ensures.ran
    (YieldsList-from_slice c.args.text.now c.iter.ensures.rest) (λ x b q k. search (rules, tests)) in
    take-at (λ byte. eqb byte c.args.mark) c.args.text.now c.in-Some.at (sym c.in-Some.is ∙ found)

pub returns-in-Some-clause-back : goal.returns-in-Some-clause-back
returns-in-Some-clause-back c =
    let found : c.position.result ≡ position (λ byte. eqb byte c.args.mark) c.args.text.now =
    position_from_yields_List (λ byte. eqb byte c.args.mark) _ _ c.position.result c.position.ensures.ran
    (YieldsList-from_slice c.args.text.now c.iter.ensures.rest) (λ x b q k. search (rules, tests)) in
    take-drop-at (λ byte. eqb byte c.args.mark) c.args.text.now c.in-Some.at (sym c.in-Some.is ∙ found)

pub returns-in-None-clause-front : goal.returns-in-None-clause-front
returns-in-None-clause-front c =
    let found : c.position.result ≡ position (λ byte. eqb byte c.args.mark) c.args.text.now =
    position_from_yields_List (λ byte. eqb byte c.args.mark) _ _ c.position.result c.position.ensures.ran
    (YieldsList-from_slice c.args.text.now c.iter.ensures.rest) (λ x b q k. search (rules, tests)) in
    before-none (λ byte. eqb byte c.args.mark) c.args.text.now (sym c.in-None.is ∙ found)

pub returns-in-None-clause-back : goal.returns-in-None-clause-back
returns-in-None-clause-back c =
    let found : c.position.result ≡ position (λ byte. eqb byte c.args.mark) c.args.text.now =
    position_from_yields_List (λ byte. eqb byte c.args.mark) _ _ c.position.result c.position.ensures.ran
    (YieldsList-from_slice c.args.text.now c.iter.ensures.rest) (λ x b q k. search (rules, tests)) in
    after-none (λ byte. eqb byte c.args.mark) c.args.text.now (sym c.in-None.is ∙ found)

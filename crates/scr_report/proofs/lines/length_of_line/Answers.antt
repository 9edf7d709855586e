use Rattle.std.proofs.Common.{◌≡◌, eqb, rules, tests, sym, ◌∙◌}
use Rattle.std.proofs.lemmas.Iterator.{YieldsList-from_slice}
use Rattle.std.proofs.lemmas.Iterator.Search.{position_from_yields_List}
use Rattle.scr_report.proofs.Cutting.{first_feed, length-at_feed, length-no_feed}
use Rattle.scr_report.proofs.lines.length_of_line.Goals as goal

pub returns-in-Some : goal.returns-in-Some
returns-in-Some c =
    let found : c.position.result ≡ first_feed c.args.text.now =
    position_from_yields_List (λ byte. eqb byte 10) _ _ c.position.result c.position.ensures.ran
    (YieldsList-from_slice c.args.text.now c.iter.ensures.rest) (λ x b q k. search (rules, tests)) in
    sym (length-at_feed c.args.text.now c.in-Some.at (sym c.in-Some.is ∙ found))

pub returns-in-None : goal.returns-in-None
returns-in-None c =
    let found : c.position.result ≡ first_feed c.args.text.now =
    position_from_yields_List (λ byte. eqb byte 10) _ _ c.position.result c.position.ensures.ran
    (YieldsList-from_slice c.args.text.now c.iter.ensures.rest) (λ x b q k. search (rules, tests)) in
    sym (length-no_feed c.args.text.now (sym c.in-None.is ∙ found))

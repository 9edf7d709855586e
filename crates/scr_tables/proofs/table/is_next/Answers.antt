use Rattle.std.proofs.Common.{eqb, rules, tests}
use Rattle.std.proofs.lemmas.Iterator.{YieldsList-from_slice}
use Rattle.std.proofs.lemmas.Iterator.Search.{any_from_yields_List}
use Rattle.scr_tables.specs.declared.rule.Rule.{Rule}
use Rattle.scr_tables.proofs.table.is_next.Goals as goal

pub returns : goal.returns
returns c =
    any_from_yields_List (λ (rule : Rule). eqb rule.next c.args.state) _ _ c.any.result c.any.ensures.ran
    (YieldsList-from_slice c.args.rules.now c.iter.ensures.rest) (λ x b q k. search (rules, tests))

use Rattle.std.proofs.Common.{◌&&◌, eqb, rules, tests}
use Rattle.std.proofs.lemmas.Iterator.{YieldsList-from_slice}
use Rattle.std.proofs.lemmas.Iterator.Search.{any_from_yields_List}
use Rattle.scr_tables.specs.Rules.{is_any}
use Rattle.scr_tables.specs.declared.rule.Rule.{Rule}
use Rattle.scr_tables.proofs.table.has_any.Goals as goal

pub returns : goal.returns
returns c =
    any_from_yields_List (λ (rule : Rule). eqb rule.state c.args.state && is_any rule.pattern) _ _ c.any.result c.any.ensures.ran
    (YieldsList-from_slice c.args.rules.now c.iter.ensures.rest) (λ x b q k. search (rules, tests))

-- The first of the special rules, or else the one for any packet.
use Rattle.std.proofs.Common.{◌≡◌, ◌∙◌, Bool, take, get_or, take_all, Option, Some, None, unwrap_or, sym, ap}
use Rattle.std.specs.List.{find}
use Rattle.std.specs.Option.{option_or}
use Rattle.scr_tables.specs.Rules.{holds}
use Rattle.scr_tables.specs.declared.rule.Rule.{Rule}
use Rattle.scr_tables.proofs.Firsts.{find-here, find-past}
use Rattle.scr_tables.proofs.Spelled.{some_rule}
use Rattle.scr_tables.proofs.index.StateRules.rule_for.Goals as goal

pub returns-then-holds : goal.returns-then-holds
returns-then-holds c =
    let items = c.deref-rule-items.result.now in
    let i = c.loop-rule.rule-index in
    let test : Rule → Bool = λ rule. holds rule.pattern c.args.packet.now in
    let found = find-here test items i some_rule c.loop-rule-test.true (sym c.holds.ensures ∙ c.if-holds.true) in
    let first : find test items ≡ Some (get_or items i some_rule) =
    found ∙ ap (λ (before : Option Rule). option_or before (Some (get_or items i some_rule))) c.loop-rule.invariant in
    sym (ap (λ (rule : Option Rule). unwrap_or rule c.args.self.now.otherwise) (ap (find test) (sym c.deref-rule-items.ensures.value) ∙ first))

pub loop-rule-preserved : goal.loop-rule-preserved
loop-rule-preserved c =
    find-past (λ (rule : Rule). holds rule.pattern c.args.packet.now) c.deref-rule-items.result.now c.loop-rule.rule-index some_rule
    c.loop-rule-test.true (sym c.holds.ensures ∙ c.if-holds.false) ∙ c.loop-rule.invariant

pub returns : goal.returns
returns c =
    let items = c.deref-rule-items.result.now in
    let all : take c.loop-rule.rule-index items ≡ items = take_all c.loop-rule.rule-index items c.loop-rule-test.false in
    let test : Rule → Bool = λ rule. holds rule.pattern c.args.packet.now in
    let none : find test items ≡ None = ap (find test) (sym all) ∙ c.loop-rule.invariant in
    sym (ap (λ (rule : Option Rule). unwrap_or rule c.args.self.now.otherwise) (ap (find test) (sym c.deref-rule-items.ensures.value) ∙ none))

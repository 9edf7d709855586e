-- The rules of a state up to the first for any packet.
use Rattle.std.proofs.Common.{◌∙◌, get_or, refl, sym}
use Rattle.scr_tables.specs.declared.index.StateRules.{StateRules}
use Rattle.scr_tables.specs.declared.rule.Decision.TheVariants.{Drop}
use Rattle.scr_tables.proofs.Special.{AreRead-none, AreRead-other, AreRead-special, AreRulesOf-found, AreRulesOf-none}
use Rattle.scr_tables.proofs.Spelled.{some_rule}
use Rattle.scr_tables.proofs.index.rules_of.Goals as goal
use Rattle.scr_tables.proofs.index.rules_of.Goals.{then-rule-state+else-is_any+in_ok-push, else-rule-state}

pub loop-rule-init : goal.loop-rule-init
loop-rule-init c = rw c.new-special.ensures.items (AreRead-none c.args.rules.now c.args.state)

pub returns-then-is_any : goal.returns-then-is_any
returns-then-is_any c =
    let found : StateRules = record { special = c.loop-rule.special; otherwise = get_or c.args.rules.now c.loop-rule.rule-index some_rule } in
    AreRulesOf-found c.args.rules.now c.args.state c.loop-rule.rule-index c.loop-rule.special.items some_rule c.loop-rule-test.true
    c.loop-rule.invariant found refl refl c.if-rule-state.true (sym c.is_any.ensures ∙ c.if-is_any.true)

pub loop-rule-preserved : goal.loop-rule-preserved
loop-rule-preserved c =
    elim c.if-rule-state.branch [
      | then-rule-state+else-is_any+in_ok-push w ↦ rw (w.special-is, w.in_ok-push.ensures.items)
          (AreRead-special c.args.rules.now c.args.state c.loop-rule.rule-index c.loop-rule.special.items some_rule c.loop-rule-test.true
          c.loop-rule.invariant w.if-rule-state.true (sym w.is_any.ensures ∙ w.if-is_any.false))
      | else-rule-state w ↦ rw w.special-is
          (AreRead-other c.args.rules.now c.args.state c.loop-rule.rule-index c.loop-rule.special.items some_rule c.loop-rule-test.true
          c.loop-rule.invariant w.if-rule-state.false)
    ]

pub returns : goal.returns
returns c =
    let found : StateRules = record { special = c.loop-rule.special; otherwise = record some_rule { verdict = Drop } } in
    AreRulesOf-none c.args.rules.now c.args.state c.loop-rule.rule-index c.loop-rule.special.items found c.loop-rule-test.false c.loop-rule.invariant

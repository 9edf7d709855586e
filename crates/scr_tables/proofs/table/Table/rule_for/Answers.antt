-- The rules at the place of a state are those of the state, which is below 16 where it has a rule for any packet.
use Rattle.std.proofs.Common.{◌≡◌, ◌∙◌, ℕ, ◌<◌, ◌%◌, List, Some, get_or, true, sym, ap, arith}
use Rattle.scr_tables.specs.Rules.{first_rule, has_any}
use Rattle.scr_tables.specs.Index.{rule_among}
use Rattle.scr_tables.specs.declared.index.StateRules.{StateRules}
use Rattle.scr_tables.specs.declared.rule.Rule.{Rule}
use Rattle.scr_tables.proofs.Spelled.{any-small}
use Rattle.scr_tables.proofs.table.Table.rule_for.Goals as goal

pub returns : goal.returns
returns c = λ has.
    let rules = c.self.inside.rules.items in
    let same : rules ≡ c.args.self.now = c.self.view_is in
    let inside : has_any rules c.args.state ≡ true = ap (λ (rs : List Rule). has_any rs c.args.state) same ∙ has in
    let small : c.args.state < 16 = any-small rules c.self.invariant.0.each c.args.state inside in
    let place : c.args.state % 16 ≡ c.args.state = omega arith in
    let d = c.index-rules.result.now in
    let at = c.self.invariant.1.each c.args.state d small c.args.packet.now inside in
    let entry : d ≡ get_or c.self.inside.by_state.items c.args.state d =
    c.index-rules.ensures ∙ ap (λ (i : ℕ). get_or c.self.inside.by_state.items i d) (c.from.ensures ∙ place) in
    ap (λ (rs : List Rule). first_rule rs c.args.state c.args.packet.now) (sym same) ∙ at
    ∙ ap (λ (r : StateRules). Some (rule_among r c.args.packet.now)) (sym entry) ∙ ap Some (sym c.rule_for.ensures)

-- What was read is a table, and its index is one of its rules.
use Rattle.std.proofs.Common.{◌∙◌, All, List, sym, ap, subst}
use Rattle.scr_tables.specs.Index.{IsIndex}
use Rattle.scr_tables.specs.Rules.{IsRule, lacks_any}
use Rattle.scr_tables.specs.declared.rule.Rule.{Rule}
use Rattle.scr_tables.proofs.Spelled.{each-from_reads, IsTable-from_rules}
use Rattle.scr_tables.proofs.table.Table.read.Goals as goal

pub first_lacking-requires : goal.first_lacking-requires
first_lacking-requires c =
    subst (λ (rules : List Rule). All IsRule rules) (sym c.deref.ensures.value)
    (each-from_reads c.args.text.now c.in_ok-rules.rules.items c.in_ok-rules.ensures.each)

pub invariant_of-result : goal.invariant_of-result
invariant_of-result c = (
  IsTable-from_rules c.args.text.now c.in_ok-rules.rules.items c.in_ok-rules.ensures
      (λ state. ap (λ (rules : List Rule). lacks_any rules state) (sym c.deref.ensures.value) ∙ c.in_default.ensures state),
  subst (λ (rules : List Rule). IsIndex rules c.in_ok-by_state.by_state.items) c.deref-2.ensures.value c.in_ok-by_state.ensures,
)

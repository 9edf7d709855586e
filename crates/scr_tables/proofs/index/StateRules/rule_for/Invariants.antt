use Rattle.std.proofs.Common.{◌≡◌, take, None}
use Rattle.std.specs.List.{find}
use Rattle.scr_tables.specs.Rules.{holds}
use Rattle.scr_tables.proofs.index.StateRules.rule_for.Given as goal

-- none of the rules so far holds of the packet
abbrev pub invariant-loop-rule : goal.invariant-loop-rule
invariant-loop-rule l = find (λ rule. holds rule.pattern l.packet) (take l.rule-index l.rule-items) ≡ None

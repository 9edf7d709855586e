-- The rules of a table by their states, so that a step looks at those of one state alone.
use Rattle.std.specs.Prelude.{◌≡◌, ℕ, ◌<◌, true, List, length, Some, unwrap_or}
use Rattle.std.specs.List.{find, slice_index_or}
use Rattle.scr_program.specs.declared.fields.Fields.{Fields}
use Rattle.scr_tables.specs.Rules.{holds, first_rule, has_any}
use Rattle.scr_tables.specs.declared.index.StateRules.{StateRules}
use Rattle.scr_tables.specs.declared.rule.Rule.{Rule}

-- the first rule of a state that holds of a packet: one of the special ones, or else the one for any packet
abbrev pub rule_among : StateRules → Fields → Rule
rule_among found fields = unwrap_or (find (λ rule. holds rule.pattern fields) found.special.items) found.otherwise

-- in a state that has a rule for any packet, this is the first rule of the table
abbrev pub AreRulesOf : List Rule → ℕ → StateRules → Type 0
AreRulesOf rules state found = (fields : Fields) → has_any rules state ≡ true → first_rule rules state fields ≡ Some (rule_among found fields)

-- the rules of each state from 0 to 15, at its place
pub record IsIndex (rules : List Rule) (by_state : List StateRules) : Type 0 where
  pub count : length by_state ≡ 16
  pub each : (state : ℕ) (d : StateRules) → state < 16 → AreRulesOf rules state (slice_index_or by_state state d)

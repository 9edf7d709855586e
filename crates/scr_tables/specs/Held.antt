-- The states that the sources of a run are in.
use Rattle.std.specs.Prelude.{◌≡◌, ℕ, true, List, All, Some}
use Rattle.std.specs.Map.{values_of}
use Rattle.scr_program.specs.declared.fields.Address.{Address}
use Rattle.scr_program.specs.declared.fields.Fields.{Fields}
use Rattle.scr_tables.specs.Rules.{first_rule, has_any, can_be_held}
use Rattle.scr_tables.specs.declared.rule.Decision.{Decision}
use Rattle.scr_tables.specs.declared.rule.Rule.{Rule}

-- each source is in a state that a run can hold
abbrev pub AreHeld : List Rule → List (Address × ℕ) → Type 0
AreHeld rules flows = All (λ state. can_be_held rules state ≡ true) (values_of flows)

-- in a state that has a rule for any packet, this is the next state and the verdict of the first rule for the packet
abbrev pub FirstSays : List Rule → ℕ → Fields → ℕ × Decision → Type 0
FirstSays rules state fields said =
    has_any rules state ≡ true → (rule : Rule) × (first_rule rules state fields ≡ Some rule) × (rule.next ≡ said.0) × (rule.verdict ≡ said.1)

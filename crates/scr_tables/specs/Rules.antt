-- The rules of a table: of which packets each holds, which one is the first, and what is true of every table.
use Rattle.std.specs.Prelude.{◌≡◌, ℕ, ◌≤◌, Bool, true, false, ◌&&◌, ◌||◌, not, ◌==◌, List, All, length, Option, bit_and}
use Rattle.std.specs.List.{find, list_any}
use Rattle.scr_frame.specs.declared.parsed.Kind.TheVariants as kinds
use Rattle.scr_program.specs.Rows.{kind_number}
use Rattle.scr_program.specs.declared.fields.Fields.{Fields}
use Rattle.scr_tables.specs.declared.rule.Pattern.{Pattern}
use Rattle.scr_tables.specs.declared.rule.Pattern.TheVariants.{Any, Tcp, Udp, Port, Flags}
use Rattle.scr_tables.specs.declared.rule.Rule.{Rule}

-- the greatest state, and how many rules a table may have
abbrev pub greatest_state : ℕ
greatest_state = 15

abbrev pub most_rules : ℕ
most_rules = 256

abbrev pub is_tcp : Fields → Bool
is_tcp fields = fields.kind == kind_number kinds.Tcp

abbrev pub is_udp : Fields → Bool
is_udp fields = fields.kind == kind_number kinds.Udp

-- Whether a pattern holds of a packet with these fields: any packet; TCP; UDP; TCP or UDP to this port; TCP that has
-- all of these flags.
abbrev pub holds : Pattern → Fields → Bool
holds Any fields = true
holds Tcp fields = is_tcp fields
holds Udp fields = is_udp fields
holds (Port port) fields = (is_tcp fields || is_udp fields) && (fields.destination_port == port)
holds (Flags flags) fields = is_tcp fields && (bit_and fields.flags flags == flags)

-- whether a rule is one for a source in this state and a packet with these fields
abbrev pub is_for : ℕ → Fields → Rule → Bool
is_for state fields rule = (rule.state == state) && holds rule.pattern fields

-- the first such rule
abbrev pub first_rule : List Rule → ℕ → Fields → Option Rule
first_rule rules state fields = find (is_for state fields) rules

abbrev pub is_any : Pattern → Bool
is_any Any = true
is_any Tcp = false
is_any Udp = false
is_any (Port port) = false
is_any (Flags flags) = false

-- whether a state has a rule for any packet
abbrev pub has_any : List Rule → ℕ → Bool
has_any rules state = list_any (λ rule. (rule.state == state) && is_any rule.pattern) rules

-- whether a run can hold a state: it is 0, or the next state of a rule
abbrev pub can_be_held : List Rule → ℕ → Bool
can_be_held rules state = (state == 0) || list_any (λ rule. rule.next == state) rules

-- a state that a run can hold lacks a rule for any packet
abbrev pub lacks_any : List Rule → ℕ → Bool
lacks_any rules state = can_be_held rules state && not (has_any rules state)

pub record IsRule (rule : Rule) : Type 0 where
  pub state : rule.state ≤ greatest_state
  pub next : rule.next ≤ greatest_state

-- what is true of every table
pub record IsTable (rules : List Rule) : Type 0 where
  pub each : All IsRule rules
  pub few : length rules ≤ most_rules
  pub complete : (state : ℕ) → lacks_any rules state ≡ false

-- The door as a table of rules: how many knocks a source has made in turn is its state, 3 where the door is open.
use Rattle.std.specs.Prelude.{◌≡◌, ℕ, List, [], ◌∷◌, codes}
use Rattle.scr_knock.specs.declared.settings.KnockSettings.{KnockSettings}
use Rattle.scr_tables.specs.declared.rule.Decision.{Decision}
use Rattle.scr_tables.specs.declared.rule.Decision.TheVariants.{Pass, Drop}
use Rattle.scr_tables.specs.declared.rule.Pattern.{Pattern}
use Rattle.scr_tables.specs.declared.rule.Pattern.TheVariants.{Any, Port}
use Rattle.scr_tables.specs.declared.rule.Rule.{Rule}
use Rattle.scr_tables.specs.declared.settings.TableSettings.{TableSettings}

abbrev pub rule : ℕ → Pattern → ℕ → Decision → Rule
rule state pattern next verdict = record { state = state; pattern = pattern; next = next; verdict = verdict }

-- the rules of the door with these three ports
abbrev pub door_rules : ℕ → ℕ → ℕ → List Rule
door_rules first second third =
    rule 0 (Port first) 1 Drop ∷ rule 0 Any 0 Drop
    ∷ rule 1 (Port second) 2 Drop ∷ rule 1 (Port first) 1 Drop ∷ rule 1 Any 0 Drop
    ∷ rule 2 (Port third) 3 Drop ∷ rule 2 (Port first) 1 Drop ∷ rule 2 Any 0 Drop
    ∷ rule 3 Any 3 Pass ∷ []

-- the text of these rules where the ports are 7000, 8000 and 9000
abbrev pub door_text : List ℕ
door_text = codes "0:d7000>1/D,0:*>0/D,1:d8000>2/D,1:d7000>1/D,1:*>0/D,2:d9000>3/D,2:d7000>1/D,2:*>0/D,3:*>3/P"

-- the table has the rules of the door with its ports, and as many sources at most
pub record IsDoor (table : TableSettings) (door : KnockSettings) : Type 0 where
  pub rules : table.table ≡ door_rules door.first door.second door.third
  pub flows : table.flows ≡ door.flows

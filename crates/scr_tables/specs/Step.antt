-- The step of a table of rules: what the row of a packet makes of the sources with their states, the most recently used
-- first, and the verdict on it.
use Rattle.std.specs.Prelude.{ℕ, not, List, [], ◌∷◌, Option, Some, None, unwrap_or, if◌then◌else◌, codes}
use Rattle.std.specs.Map.{lookup}
use Rattle.scr_base.specs.declared.row.Row.{Row}
use Rattle.scr_base.specs.declared.row.Verdict.{Verdict}
use Rattle.scr_program.specs.declared.fields.Address.{Address}
use Rattle.scr_program.specs.FlowList.{set_key}
use Rattle.scr_program.specs.Keys.{is_same_address}
use Rattle.scr_program.specs.Kinds.{is_packet}
use Rattle.scr_program.specs.Rows.{unpacked}
use Rattle.scr_program.specs.Folds.{verdict_after, count_after}
use Rattle.scr_tables.specs.Rules.{first_rule}
use Rattle.scr_tables.specs.declared.rule.Decision.{Decision}
use Rattle.scr_tables.specs.declared.rule.Decision.TheVariants.{Pass, Drop}
use Rattle.scr_tables.specs.declared.rule.Rule.{Rule}
use Rattle.scr_tables.specs.declared.settings.TableSettings.{TableSettings}

-- the verdicts, by their places in the list of names
abbrev pub PASS : Verdict
PASS = record { 0 = 0 }

abbrev pub DROP : Verdict
DROP = record { 0 = 1 }

abbrev pub OTHER : Verdict
OTHER = record { 0 = 2 }

abbrev pub names : List (List ℕ)
names = codes "PASS" ∷ codes "DROP" ∷ codes "OTHER" ∷ []

abbrev pub verdict_for : Decision → Verdict
verdict_for Pass = PASS
verdict_for Drop = DROP

-- the state of a source, which is 0 where it is absent
abbrev pub state_of : List (Address × ℕ) → Address → ℕ
state_of flows source = unwrap_or (lookup (is_same_address source) flows) 0

-- What a rule makes of the sources, and its verdict. There is always one: no source of a run is ever in a state without
-- a rule for any packet, as `some_rule` of src/laws.rt says.
abbrev pub taken_by : ℕ → List (Address × ℕ) → Address → Option Rule → List (Address × ℕ) × Verdict
taken_by most flows source (Some rule) = (set_key is_same_address most flows source rule.next, verdict_for rule.verdict)
taken_by most flows source None = (flows, OTHER)

-- the sources after the row of the next packet, and its verdict: the first rule for its source's state and its fields
-- gives both
unfoldable pub step : TableSettings → List (Address × ℕ) → Row → List (Address × ℕ) × Verdict
step settings flows row =
    let fields = unpacked row in
    if not (is_packet fields.kind) then (flows, OTHER)
    else taken_by settings.flows flows fields.source (first_rule settings.table (state_of flows fields.source) fields)

-- the verdict of a row that comes after these rows
abbrev pub verdict_after_rows : TableSettings → List Row → Row → Verdict
verdict_after_rows settings rows row = verdict_after (step settings) rows row

-- how many sources there are after these rows
abbrev pub count_after_rows : TableSettings → List Row → ℕ
count_after_rows settings rows = count_after (step settings) rows

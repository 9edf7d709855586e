-- Each verdict of a table of rules has a name.
use Rattle.std.specs.Prelude.{◌<◌, ℕ, List, Option, Some, None, true, false, not, if◌then◌else◌}
use Rattle.std.proofs.Common.{lit<}
use Rattle.scr_base.specs.declared.row.Row.{Row}
use Rattle.scr_base.specs.declared.row.Verdict.{Verdict}
use Rattle.scr_program.specs.declared.fields.Address.{Address}
use Rattle.scr_program.specs.Kinds.{is_packet}
use Rattle.scr_program.specs.Rows.{unpacked}
use Rattle.scr_tables.specs.Rules.{first_rule}
use Rattle.scr_tables.specs.Step.{OTHER, verdict_for, taken_by, state_of, step}
use Rattle.scr_tables.specs.declared.rule.Decision.{Decision}
use Rattle.scr_tables.specs.declared.rule.Decision.TheVariants.{Pass, Drop}
use Rattle.scr_tables.specs.declared.rule.Rule.{Rule}
use Rattle.scr_tables.specs.declared.settings.TableSettings.{TableSettings}

decision-named : (decision : Decision) → (verdict_for decision).0 < 3
decision-named Pass = lit< tt
decision-named Drop = lit< tt

taken-named : (most : ℕ) (flows : List (Address × ℕ)) (source : Address) (found : Option Rule) → (taken_by most flows source found).1.0 < 3
taken-named most flows source (Some rule) = decision-named rule.verdict
taken-named most flows source None = lit< tt

-- a step from any sources gives one of the three verdicts
pub step-named : (settings : TableSettings) (flows : List (Address × ℕ)) (row : Row) → (step settings flows row).1.0 < 3
unfolding step
step-named settings flows row =
    let fields = unpacked row in
    let found = first_rule settings.table (state_of flows fields.source) fields in
    let after = taken_by settings.flows flows fields.source found in
    let IsNamed : List (Address × ℕ) × Verdict → Type 0 = λ answer. answer.1.0 < 3 in
    elim (is_packet fields.kind) as (λ looked. IsNamed (if not looked then (flows, OTHER) else after)) [
      | true ↦ taken-named settings.flows flows fields.source found
      | false ↦ lit< tt
    ]

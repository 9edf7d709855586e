-- Each verdict of a program that keeps an entry for each key has a name. (What shows a law of an
-- `impl` has to stand in its crate's own specs/.)
use Rattle.std.specs.Prelude.{◌<◌, ℕ, Bool, true, false, not, List, Option, if◌then◌else◌}
use Rattle.std.specs.Map.{lookup}
use Rattle.scr_base.specs.declared.row.Row.{Row}
use Rattle.scr_base.specs.declared.row.Verdict.{Verdict}
use Rattle.scr_program.specs.Folds.{flows_after, verdict_after}
use Rattle.scr_program.specs.FlowList.{entered_list}
use Rattle.scr_program.specs.Keyed.{keyed_step}
use Rattle.scr_program.specs.Rows.{unpacked}
use Rattle.scr_program.specs.declared.fields.Fields.{Fields}

-- where a step from any flows names a verdict, so does the fold
pub verdict_after-named : {Flow : Type 0} (step : List Flow → Row → List Flow × Verdict) (names : ℕ) → ((flows : List Flow) (row : Row) → (step flows row).1.0 < names) → (rows : List Row) (row : Row) → (verdict_after step rows row).0 < names
verdict_after-named step names named rows row = named (flows_after step rows) row

-- where the outcome of each packet names a verdict, so does the step
pub keyed_step-named : {K V : Type 0} (same : K → K → Bool) (is_looked_at : ℕ → Bool) (key_of : Fields → K) (flows : ℕ) (outcome : Option V → Fields → Option V × Verdict) (other : Verdict) (names : ℕ) → ((known : Option V) (fields : Fields) → (outcome known fields).1.0 < names) → other.0 < names → (list : List (K × V)) (row : Row) → (keyed_step same is_looked_at key_of flows outcome other list row).1.0 < names
unfolding keyed_step
keyed_step-named {K = K} {V = V} same is_looked_at key_of flows outcome other names named other-named list row =
    let fields = unpacked row in
    let key = key_of fields in
    let after = outcome (lookup (same key) list) fields in
    let IsNamed : List (K × V) × Verdict → Type 0 = λ answer. answer.1.0 < names in
    elim (is_looked_at fields.kind) as (λ looked. IsNamed (if not looked then (list, other) else (entered_list same flows list key after.0, after.1))) [
      | true ↦ named (lookup (same key) list) fields
      | false ↦ other-named
    ]

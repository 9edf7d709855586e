-- What a packet that goes into a table makes of it is what the step makes of its list.
use Rattle.std.proofs.Common.{◌≡◌, ◌∙◌, ℕ, List, Bool, true, false, not, Option, Result, Ok, Err, IfOk, ap, sym, subst, if◌then◌else◌}
use Rattle.std.specs.Map.{lookup}
use Rattle.scr_base.specs.declared.row.Row.{Row}
use Rattle.scr_base.specs.declared.row.Verdict.{Verdict}
use Rattle.scr_program.specs.FlowTable.{Table}
use Rattle.scr_program.specs.FlowList.{entered_list}
use Rattle.scr_program.specs.Keyed.{keyed_step, EntersAs}
use Rattle.scr_program.specs.Rows.{unpacked}
use Rattle.scr_program.specs.declared.fields.Fields.{Fields}

module _ {K V : Type 0} (same : K → K → Bool) (is_looked_at : ℕ → Bool) (key_of : Fields → K) (flows : ℕ) (outcome : Option V → Fields → Option V × Verdict) (other : Verdict) (row : Row) where
  stepped : List (K × V) → Fields → Bool → List (K × V) × Verdict
  stepped list fields looked =
      let key = key_of fields in
      let after = outcome (lookup (same key) list) fields in
      if not looked then (list, other) else (entered_list same flows list key after.0, after.1)

  module _ (fields : Fields) (fields-are : fields ≡ unpacked row) where
    at-fields : (list : List (K × V)) → keyed_step same is_looked_at key_of flows outcome other list row ≡ stepped list fields (is_looked_at fields.kind)
    unfolding keyed_step stepped
    at-fields list = ap (λ (f : Fields). stepped list f (is_looked_at f.kind)) (sym fields-are)

    -- a packet that isn't looked at changes nothing
    pub step-other : (list : List (K × V)) → false ≡ is_looked_at fields.kind → keyed_step same is_looked_at key_of flows outcome other list row ≡ (list, other)
    unfolding stepped
    step-other list looked = at-fields list ∙ ap (stepped list fields) (sym looked)

    -- another leaves its key what its outcome says
    pub step-enters : {E : Type 0} (old new : Table K V) (key : K) (result : Result Verdict E) → true ≡ is_looked_at fields.kind → old.flows ≡ flows → key ≡ key_of fields → IfOk result (λ verdict. EntersAs same outcome old new key fields verdict) → IfOk result (λ verdict. keyed_step same is_looked_at key_of flows outcome other old.list row ≡ (new.list, verdict))
    unfolding stepped
    step-enters old new key (Err e) looked most key-is enters = tt
    step-enters old new key (Ok verdict) looked most key-is enters =
        let entering : EntersAs same outcome old new (key_of fields) fields verdict = subst (λ (k : K). EntersAs same outcome old new k fields verdict) key-is enters in
        let after = outcome (lookup (same (key_of fields)) old.list) fields in
        let pair : List (K × V) → Verdict → List (K × V) × Verdict = λ list given. (list, given) in
        at-fields old.list
        ∙ ap (stepped old.list fields) (sym looked)
        ∙ ap (λ (n : ℕ). pair (entered_list same n old.list (key_of fields) after.0) after.1) (sym most)
        ∙ ap (λ (list : List (K × V)). pair list after.1) (sym entering.0)
        ∙ ap (λ (given : Verdict). pair new.list given) (sym entering.1)

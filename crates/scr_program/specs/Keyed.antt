-- A program that keeps an entry for each key, as a source or a flow, of the packets that it looks at.
use Rattle.std.specs.Prelude.{◌≡◌, ◌<◌, ℕ, ◌⊎◌, Bool, false, not, List, Option, Some, if◌then◌else◌}
use Rattle.std.specs.Map.{lookup}
use Rattle.scr_base.specs.declared.row.Row.{Row}
use Rattle.scr_base.specs.declared.row.Verdict.{Verdict}
use Rattle.scr_program.specs.FlowList.{entered_list}
use Rattle.scr_program.specs.FlowTable.{Table}
use Rattle.scr_program.specs.Rows.{unpacked, kind_in}
use Rattle.scr_program.specs.declared.fields.Fields.{Fields}

-- The program by its parts: which keys are the same, which kinds of packets are looked at, the key of a packet with
-- these fields, and how many flows there are at most.
module _ {K V : Type 0} (same : K → K → Bool) (is_looked_at : ℕ → Bool) (key_of : Fields → K) (flows : ℕ) where
  -- The flows after the row of the next packet, and its verdict. `outcome` gives, for the entry of the packet's key and
  -- the packet's fields, the entry that it leaves, or none, and its verdict. A packet that isn't looked at changes
  -- nothing, and its verdict is `other`.
  unfoldable pub keyed_step : (Option V → Fields → Option V × Verdict) → Verdict → List (K × V) → Row → List (K × V) × Verdict
  keyed_step outcome other list row =
      let fields = unpacked row in
      let key = key_of fields in
      let after = outcome (lookup (same key) list) fields in
      if not (is_looked_at fields.kind) then (list, other) else (entered_list same flows list key after.0, after.1)

-- a packet with this key and these fields has gone into the table, and has this verdict
abbrev pub EntersAs : {K V : Type 0} → (K → K → Bool) → (Option V → Fields → Option V × Verdict) → Table K V → Table K V → K → Fields → Verdict → Type 0
EntersAs same outcome old new key fields verdict =
    let after = outcome (lookup (same key) old.list) fields in
    (new.list ≡ entered_list same old.flows old.list key after.0) × (verdict ≡ after.1)

-- a step with this row needs no more memory: the row isn't looked at, or its key is ready, or there is room for any key
abbrev pub IsReadyFor : {K V : Type 0} → (ℕ → Bool) → (Fields → K) → Table K V → Row → Type 0
IsReadyFor is_looked_at key_of table row = (is_looked_at (kind_in row) ≡ false) ⊎ ((table.ready ≡ Some (key_of (unpacked row))) ⊎ (0 < table.spare))

-- A program as the fold of its step over the rows of packets, from an empty list of flows.
use Rattle.std.specs.Prelude.{◌≡◌, ℕ, List, [], fold, length}
use Rattle.scr_base.specs.declared.row.Row.{Row}
use Rattle.scr_base.specs.declared.row.Verdict.{Verdict}
use Rattle.scr_program.specs.FlowTable.{Table}

-- `step` gives, for the flows so far and the row of the next packet, the flows after it and its verdict
module _ {Flow : Type 0} (step : List Flow → Row → List Flow × Verdict) where
  -- the flows after these rows
  unfoldable pub flows_after : List Row → List Flow
  flows_after rows = fold (λ flows row. (step flows row).0) [] rows

  -- the verdict of a row that comes after these rows
  abbrev pub verdict_after : List Row → Row → Verdict
  verdict_after rows row = (step (flows_after rows) row).1

  -- how many flows there are after these rows
  abbrev pub count_after : List Row → ℕ
  count_after rows = length (flows_after rows)

-- a table with so many flows at most stands for these rows
abbrev pub Stands : {K V : Type 0} → (List (K × V) → Row → List (K × V) × Verdict) → ℕ → Table K V → List Row → Type 0
Stands step flows table rows = (table.flows ≡ flows) × (table.list ≡ flows_after step rows)

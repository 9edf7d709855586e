-- What the flow table of the sources stands for, and for which rows it is ready.
use Rattle.std.specs.Prelude.{◌≡◌, ◌<◌, ℕ, false, List, ◌⊎◌, Some}
use Rattle.scr_base.specs.declared.row.Row.{Row}
use Rattle.scr_program.specs.declared.fields.Address.{Address}
use Rattle.scr_program.specs.FlowTable.{Table}
use Rattle.scr_program.specs.Folds.{Stands}
use Rattle.scr_program.specs.Kinds.{is_packet}
use Rattle.scr_program.specs.Rows.{source_in, kind_in}
use Rattle.scr_tables.specs.declared.settings.TableSettings.{TableSettings}
use Rattle.scr_tables.specs.Step.{step}

-- the table has the sources after these rows
abbrev pub StandsFor : TableSettings → Table Address ℕ → List Row → Type 0
StandsFor settings table rows = Stands (step settings) settings.flows table rows

-- the row isn't looked at, or room is kept for its source, or there is room for any
abbrev pub IsReady : TableSettings → Table Address ℕ → Row → Type 0
IsReady settings table row = (is_packet (kind_in row) ≡ false) ⊎ ((table.ready ≡ Some (source_in row)) ⊎ (0 < table.spare))

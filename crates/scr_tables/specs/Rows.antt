-- The row of a packet for a table of rules, which looks at the source, the destination port and the flags of each IP
-- packet. A frame that isn't looked at has the row of seven zeros.
use Rattle.std.specs.Prelude.{ℕ, if◌then◌else◌}
use Rattle.scr_base.specs.declared.row.Row.{Row}
use Rattle.scr_frame.specs.declared.parsed.Parsed.{Parsed}
use Rattle.scr_program.specs.declared.fields.Fields.{Fields}
use Rattle.scr_program.specs.Kinds.{is_packet}
use Rattle.scr_program.specs.Rows.{frame_fields, no_fields, packed, zero_row}
use Rattle.scr_tables.specs.declared.settings.TableSettings.{TableSettings}

-- the fields that a table keeps: the rest is 0
abbrev pub fields_kept : Fields → Fields
fields_kept fields = record no_fields {
  source = fields.source;
  destination = record { family = fields.source.family; value = 0 };
  destination_port = fields.destination_port;
  flags = fields.flags;
  kind = fields.kind;
}

-- the row of a frame that came at this time
abbrev pub row_of : TableSettings → Parsed → ℕ → Row
row_of settings frame time =
    let fields = frame_fields frame time in
    if is_packet fields.kind then packed (fields_kept fields) else zero_row

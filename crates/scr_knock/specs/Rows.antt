-- The row of a packet for the door, which looks at TCP and UDP: the source address, its family, the destination port and
-- the kind of the frame, in their places of the seven words. A frame that isn't looked at has the row of seven zeros.
use Rattle.std.specs.Prelude.{ℕ}
use Rattle.scr_base.specs.declared.row.Row.{Row}
use Rattle.scr_frame.specs.declared.parsed.Parsed.{Parsed}
use Rattle.scr_program.specs.declared.fields.Fields.{Fields}
use Rattle.scr_program.specs.Kinds.{has_ports}
use Rattle.scr_program.specs.Rows.{no_fields, row_keeping}

-- the fields that the door keeps: the rest is 0
abbrev pub fields_kept : Fields → Fields
fields_kept fields = record no_fields {
  source = fields.source;
  destination = record { family = fields.source.family; value = 0 };
  destination_port = fields.destination_port;
  kind = fields.kind;
}

-- the row of a frame that came at this time
abbrev pub row_of : Parsed → ℕ → Row
row_of = row_keeping has_ports fields_kept

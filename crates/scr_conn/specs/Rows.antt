-- The row of a segment for the tracker, which looks at TCP: both addresses and ports, the protocol, the flags, the family,
-- the kind of the frame and the time, in their places of the seven words. A frame that isn't looked at has the row of
-- seven zeros.
use Rattle.std.specs.Prelude.{ℕ}
use Rattle.scr_base.specs.declared.row.Row.{Row}
use Rattle.scr_frame.specs.declared.parsed.Parsed.{Parsed}
use Rattle.scr_program.specs.declared.fields.Fields.{Fields}
use Rattle.scr_program.specs.Kinds.{is_tcp}
use Rattle.scr_program.specs.Rows.{no_fields, row_keeping}

-- the fields that the tracker keeps: the rest is 0
abbrev pub fields_kept : Fields → Fields
fields_kept fields = record no_fields {
  source = fields.source;
  destination = fields.destination;
  source_port = fields.source_port;
  destination_port = fields.destination_port;
  protocol = fields.protocol;
  flags = fields.flags;
  kind = fields.kind;
  time = fields.time;
}

-- the row of a frame that came at this time
abbrev pub row_of : Parsed → ℕ → Row
row_of = row_keeping is_tcp fields_kept

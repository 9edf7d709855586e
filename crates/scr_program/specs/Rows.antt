-- The fields of a packet, and the seven words of its row.
use Rattle.std.specs.Prelude.{ℕ, ◌+◌, ◌*◌, ◌/◌, ◌%◌, ◌^◌, Bool, if◌then◌else◌}
use Rattle.scr_base.specs.declared.row.Row.{Row}
use Rattle.scr_frame.specs.declared.parsed.Kind.{Kind}
use Rattle.scr_frame.specs.declared.parsed.Kind.TheVariants.{Other, Bare, Tcp, Udp}
use Rattle.scr_frame.specs.declared.parsed.Parsed.{Parsed}
use Rattle.scr_program.specs.declared.fields.Address.{Address}
use Rattle.scr_program.specs.declared.fields.Fields.{Fields}

-- the number of a kind of frame
abbrev pub kind_number : Kind → ℕ
kind_number Other = 0
kind_number Bare = 1
kind_number Tcp = 2
kind_number Udp = 3

-- all fields of a frame that came at this time
abbrev pub frame_fields : Parsed → ℕ → Fields
frame_fields frame time = record {
  source = record { family = frame.family; value = frame.source };
  destination = record { family = frame.family; value = frame.destination };
  source_port = frame.source_port;
  destination_port = frame.destination_port;
  protocol = frame.protocol;
  flags = frame.flags;
  kind = kind_number frame.kind;
  time = time;
  length = frame.length;
}

-- the row of a frame that a program doesn't look at
abbrev pub zero_row : Row
zero_row = record { w0 = 0; w1 = 0; w2 = 0; w3 = 0; w4 = 0; w5 = 0; w6 = 0 }

-- fields that are all 0
abbrev pub no_fields : Fields
no_fields = record {
  source = record { family = 0; value = 0 };
  destination = record { family = 0; value = 0 };
  source_port = 0;
  destination_port = 0;
  protocol = 0;
  flags = 0;
  kind = 0;
  time = 0;
  length = 0;
}

-- The row of these fields. An address takes two words, the high 64 bits first; the fifth word has the ports, the
-- protocol, the flags, the family of both addresses and the kind.
abbrev pub packed : Fields → Row
packed fields = record {
  w0 = fields.source.value / 2 ^ 64;
  w1 = fields.source.value % 2 ^ 64;
  w2 = fields.destination.value / 2 ^ 64;
  w3 = fields.destination.value % 2 ^ 64;
  w4 = fields.source_port * 2 ^ 48 + fields.destination_port * 2 ^ 32 + fields.protocol * 2 ^ 24 + fields.flags * 2 ^ 16 + fields.source.family * 2 ^ 8 + fields.kind;
  w5 = fields.time;
  w6 = fields.length;
}

-- the row of a frame that came at this time, for a program that looks at packets of these kinds and keeps these of
-- their fields
abbrev pub row_keeping : (ℕ → Bool) → (Fields → Fields) → Parsed → ℕ → Row
row_keeping is_looked_at fields_kept frame time =
    let fields = frame_fields frame time in
    if is_looked_at fields.kind then packed (fields_kept fields) else zero_row

-- the kind in a row
abbrev pub kind_in : Row → ℕ
kind_in row = row.w4 % 2 ^ 8

-- the family of both addresses in a row
abbrev pub family_in : Row → ℕ
family_in row = row.w4 / 2 ^ 8 % 2 ^ 8

abbrev pub source_in : Row → Address
source_in row = record { family = family_in row; value = row.w0 * 2 ^ 64 + row.w1 }

abbrev pub destination_in : Row → Address
destination_in row = record { family = family_in row; value = row.w2 * 2 ^ 64 + row.w3 }

-- the fields at their places in a row
abbrev pub unpacked : Row → Fields
unpacked row = record {
  source = source_in row;
  destination = destination_in row;
  source_port = row.w4 / 2 ^ 48;
  destination_port = row.w4 / 2 ^ 32 % 2 ^ 16;
  protocol = row.w4 / 2 ^ 24 % 2 ^ 8;
  flags = row.w4 / 2 ^ 16 % 2 ^ 8;
  kind = kind_in row;
  time = row.w5;
  length = row.w6;
}

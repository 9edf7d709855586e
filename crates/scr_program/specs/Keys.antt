-- Keys of flow tables: an address, and the five-tuple of a packet.
use Rattle.std.specs.Prelude.{Bool, ◌&&◌, ◌==◌}
use Rattle.scr_program.specs.declared.fields.Address.{Address}
use Rattle.scr_program.specs.declared.fields.Fields.{Fields}
use Rattle.scr_program.specs.declared.key.FiveTuple.{FiveTuple}

-- the source of a packet with these fields
abbrev pub source_of : Fields → Address
source_of fields = fields.source

-- the five-tuple of a packet with these fields
abbrev pub five_tuple_of : Fields → FiveTuple
five_tuple_of fields = record {
  source = fields.source;
  destination = fields.destination;
  source_port = fields.source_port;
  destination_port = fields.destination_port;
  protocol = fields.protocol;
}

abbrev pub is_same_address : Address → Address → Bool
is_same_address a b = (a.family == b.family) && (a.value == b.value)

abbrev pub is_same_tuple : FiveTuple → FiveTuple → Bool
is_same_tuple a b = is_same_address a.source b.source && (is_same_address a.destination b.destination && ((a.source_port == b.source_port) && ((a.destination_port == b.destination_port) && (a.protocol == b.protocol))))

-- The two ends of a connection, and which of them sent a packet.
use Rattle.std.specs.Prelude.{Bool, ◌&&◌, ◌==◌, if◌then◌else◌}
use Rattle.std.specs.declared.cmp.Ordering.{Ordering}
use Rattle.std.specs.Ordering.{nat_cmp, ordering_then, is_le}
use Rattle.scr_program.specs.Keys.{is_same_address}
use Rattle.scr_program.specs.declared.fields.Fields.{Fields}
use Rattle.scr_conn.specs.declared.endpoint.Connection.{Connection}
use Rattle.scr_conn.specs.declared.endpoint.Endpoint.{Endpoint}
use Rattle.scr_conn.specs.declared.endpoint.Side.{Side}
use Rattle.scr_conn.specs.declared.endpoint.Side.TheVariants.{Low, High}

abbrev pub source_of : Fields → Endpoint
source_of fields = record { address = fields.source; port = fields.source_port }

abbrev pub destination_of : Fields → Endpoint
destination_of fields = record { address = fields.destination; port = fields.destination_port }

-- endpoints are compared by family, then by the address's number, then by port
abbrev pub compared : Endpoint → Endpoint → Ordering
compared a b =
    ordering_then (nat_cmp a.address.family b.address.family)
    (ordering_then (nat_cmp a.address.value b.address.value) (nat_cmp a.port b.port))

-- the sender is the low end where the source isn't greater than the destination
abbrev pub sender_of : Fields → Side
sender_of fields = if is_le (compared (source_of fields) (destination_of fields)) then Low else High

-- the two ends, the lower one first, whichever of them sent
abbrev pub ends : Side → Endpoint → Endpoint → Connection
ends Low source destination = record { low = source; high = destination }
ends High source destination = record { low = destination; high = source }

-- the connection of a packet with these fields
abbrev pub connection_of : Fields → Connection
connection_of fields = ends (sender_of fields) (source_of fields) (destination_of fields)

abbrev pub is_same_endpoint : Endpoint → Endpoint → Bool
is_same_endpoint a b = is_same_address a.address b.address && (a.port == b.port)

abbrev pub is_same_connection : Connection → Connection → Bool
is_same_connection a b = is_same_endpoint a.low b.low && is_same_endpoint a.high b.high

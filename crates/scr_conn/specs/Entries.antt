-- The entry of a connection, and what a packet makes of it.
use Rattle.std.specs.Prelude.{ℕ, ◌-◌, max, Bool, Option, Some, None, nat_lt, if◌then◌else◌}
use Rattle.scr_program.specs.declared.fields.Fields.{Fields}
use Rattle.scr_conn.specs.declared.endpoint.Side.{Side}
use Rattle.scr_conn.specs.declared.endpoint.Side.TheVariants.{Low, High}
use Rattle.scr_conn.specs.declared.entry.Entry.{Entry}
use Rattle.scr_conn.specs.declared.table.Cell.{Cell}
use Rattle.scr_conn.specs.declared.table.Cell.TheVariants.{Invalid, Plain, Starred}
use Rattle.scr_conn.specs.declared.table.Direction.{Direction}
use Rattle.scr_conn.specs.declared.table.Direction.TheVariants.{Near, Far}
use Rattle.scr_conn.specs.Endpoints.{sender_of}
use Rattle.scr_conn.specs.Flags.{class_of}
use Rattle.scr_conn.specs.Transitions.{transition}

-- how long ago the last packet was: 0 where time went back
abbrev pub elapsed : Entry → ℕ → ℕ
elapsed entry time = time - entry.time

abbrev pub is_idle : ℕ → ℕ → Entry → Bool
is_idle idle time entry = nat_lt idle (elapsed entry time)

-- the known entry, unless so much time has elapsed that it counts as absent
abbrev pub live : ℕ → ℕ → Option Entry → Option Entry
live idle time None = None
live idle time (Some entry) = if is_idle idle time entry then None else Some entry

-- a packet is near where its sender is the entry's side
abbrev pub direction_of : Side → Side → Direction
direction_of Low Low = Near
direction_of Low High = Far
direction_of High Low = Far
direction_of High High = Near

-- the cell of the table for an entry, or none, and a packet of this sender and these flags
abbrev pub cell_for : Option Entry → Side → ℕ → Cell
cell_for None sender flags = transition None Near (class_of flags)
cell_for (Some entry) sender flags = transition (Some entry.state) (direction_of entry.side sender) (class_of flags)

-- The entry that a cell makes of an entry, or of none. The side becomes the sender at a star, and where there was no
-- entry. The time becomes the greater of both.
abbrev pub changed : Cell → Option Entry → Side → ℕ → Option Entry
changed Invalid known sender time = None
changed (Plain state) None sender time = Some (record { state = state; side = sender; time = time })
changed (Plain state) (Some entry) sender time = Some (record { state = state; side = entry.side; time = max entry.time time })
changed (Starred state) None sender time = Some (record { state = state; side = sender; time = time })
changed (Starred state) (Some entry) sender time = Some (record { state = state; side = sender; time = max entry.time time })

-- the entry after a packet with these fields, or none where the packet is invalid
abbrev pub next_entry : ℕ → Option Entry → Fields → Option Entry
next_entry idle known fields =
    let entry = live idle fields.time known in
    let sender = sender_of fields in
    changed (cell_for entry sender fields.flags) entry sender fields.time

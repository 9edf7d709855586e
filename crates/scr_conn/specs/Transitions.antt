-- The table of the tracker: where a packet brings a connection, by state, direction and class.
use Rattle.std.specs.Prelude.{Option, Some, None}
use Rattle.scr_conn.specs.declared.class.Class.{Class}
use Rattle.scr_conn.specs.declared.class.Class.TheVariants.{Reset, SynFin, SynAck, Syn, Fin, Ack, Unmarked}
use Rattle.scr_conn.specs.declared.entry.State.{State}
use Rattle.scr_conn.specs.declared.entry.State.TheVariants.{SynSent, SynRecv, Established, FinWait, LastAck, TimeWait, Closed}
use Rattle.scr_conn.specs.declared.table.Cell.{Cell}
use Rattle.scr_conn.specs.declared.table.Cell.TheVariants.{Invalid, Plain, Starred}
use Rattle.scr_conn.specs.declared.table.Direction.{Direction}
use Rattle.scr_conn.specs.declared.table.Direction.TheVariants.{Near, Far}

-- A row of the table, with a cell for each of five classes. SYN with FIN, and none of the four flags, are invalid in
-- every row.
abbrev pub cells : Cell → Cell → Cell → Cell → Cell → Class → Cell
cells reset syn_ack syn fin ack Reset = reset
cells reset syn_ack syn fin ack SynFin = Invalid
cells reset syn_ack syn fin ack SynAck = syn_ack
cells reset syn_ack syn fin ack Syn = syn
cells reset syn_ack syn fin ack Fin = fin
cells reset syn_ack syn fin ack Ack = ack
cells reset syn_ack syn fin ack Unmarked = Invalid

-- The rows, by the state, or none, and by whether the sender is the entry's side (near) or the other end (far). Their
-- cells are those of RST, SYN with ACK, SYN, FIN and ACK, in this order. At a star the sender becomes the side;
-- elsewhere the side stays.
abbrev pub transition : Option State → Direction → Class → Cell
transition None _ = cells Invalid Invalid (Starred SynSent) Invalid Invalid
transition (Some SynSent) Near = cells (Plain Closed) Invalid (Plain SynSent) Invalid Invalid
transition (Some SynSent) Far = cells (Plain Closed) (Plain SynRecv) Invalid Invalid Invalid
transition (Some SynRecv) Near = cells (Plain Closed) Invalid (Plain SynRecv) (Starred FinWait) (Plain Established)
transition (Some SynRecv) Far = cells (Plain Closed) (Plain SynRecv) Invalid (Starred FinWait) (Plain SynRecv)
transition (Some Established) Near = cells (Plain Closed) Invalid Invalid (Starred FinWait) (Plain Established)
transition (Some Established) Far = cells (Plain Closed) (Plain Established) Invalid (Starred FinWait) (Plain Established)
transition (Some FinWait) Near = cells (Plain Closed) Invalid Invalid (Plain FinWait) (Plain FinWait)
transition (Some FinWait) Far = cells (Plain Closed) Invalid Invalid (Plain LastAck) (Plain FinWait)
transition (Some LastAck) Near = cells (Plain Closed) Invalid Invalid (Plain LastAck) (Plain TimeWait)
transition (Some LastAck) Far = cells (Plain Closed) Invalid Invalid (Plain LastAck) (Plain LastAck)
transition (Some TimeWait) _ = cells (Plain Closed) Invalid (Starred SynSent) (Plain TimeWait) (Plain TimeWait)
transition (Some Closed) _ = cells (Plain Closed) Invalid (Starred SynSent) Invalid Invalid

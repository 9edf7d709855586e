-- What a core knows of the packets by the frames that are delivered to it.
use Rattle.std.specs.Prelude.{◌≡◌, ℕ, ◌-◌, ◌≤◌, Bool, true, false, List, ◌++◌, length, map, replicate, Option, Some, None, if◌then◌else◌}
use Rattle.std.specs.List.{range_with_len}
use Rattle.scr_base.specs.declared.row.Row.{Row}
use Rattle.scr_plan.specs.Plan.{Plan}
use Rattle.scr_plan.specs.Delivered.{delivers_to}
use Rattle.scr_plan.specs.FinalEntry.{final_entry}
use Rattle.scr_wire.specs.declared.message.Message.{Message}
use Rattle.scr_wire.specs.Spelling.{number_of}
use Rattle.scr_wire.specs.Lane.{frame}
use Rattle.scr_replica.specs.declared.entry.Entry.{Entry}
use Rattle.scr_replica.specs.declared.entry.Entry.TheVariants.{Delivered, Carried, Lost}

-- the row in an entry
abbrev pub row_in : Entry → Option Row
row_in (Delivered row) = Some row
row_in (Carried row) = Some row
row_in Lost = None

-- whether it is that of a packet whose own frame was delivered
abbrev pub is_delivered : Entry → Bool
is_delivered (Delivered row) = true
is_delivered (Carried row) = false
is_delivered Lost = false

-- the entry that has this row, where there is one, and says whether the packet's own frame was delivered
abbrev pub entry_with : Bool → Option Row → Entry
entry_with own None = Lost
entry_with own (Some row) = if own then Delivered row else Carried row

-- what a core ends up knowing of packet p: its final entry, and whether the packet's own frame is delivered to it
abbrev pub entry_of : Plan → (core p : ℕ) → Entry
entry_of plan core p = entry_with (delivers_to plan core p) (final_entry plan core p)

-- the same of the packets from 1 to p
unfoldable pub entries_up_to : Plan → (core p : ℕ) → List Entry
entries_up_to plan core p = map (entry_of plan core) (range_with_len 1 p)

-- a core that was given all its frames up to n knows these packets: what it knows is final, and nothing is known of
-- what only later frames may carry
pub record Knows (plan : Plan) (core n : ℕ) (known : List Entry) : Type 0 where
  pub final : known ≡ entries_up_to plan core (length known)
  pub within : length known ≤ n
  pub own : (frame : ℕ) → frame ≤ n → delivers_to plan core frame ≡ true → frame ≤ length known

-- the message is that of a frame of the plan that is delivered to this core
pub record IsFrameTo (plan : Plan) (core : ℕ) (message : Message) : Type 0 where
  pub is_frame : message ≡ frame plan (number_of message)
  pub is_delivered : delivers_to plan core (number_of message) ≡ true

-- what is known, where all unknown packets up to a number are lost
abbrev pub with_lost : ℕ → List Entry → List Entry
with_lost number known = known ++ replicate (number - length known) Lost

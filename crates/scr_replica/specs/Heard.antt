-- What a replica keeps of the messages that it took: the last one, and what all of them decide.
use Rattle.std.specs.Prelude.{◌≡◌, ℕ, ◌+◌, ◌-◌, ◌<◌, true, false, List, length, slice_get, Option, Some, None, nat_lt, if◌then◌else◌}
use Rattle.scr_base.specs.declared.row.Row.{Row}
use Rattle.scr_plan.specs.Plan.{Plan}
use Rattle.scr_wire.specs.declared.message.Message.{Message}
use Rattle.scr_wire.specs.declared.message.Message.TheVariants.{Frame, Beacon, End}
use Rattle.scr_wire.specs.Spelling.{number_of, rows_of}
use Rattle.scr_wire.specs.Lane.{lane, decided}
use Rattle.scr_lane.specs.Messages.{SpellsMessage, route}
use Rattle.scr_replica.specs.Told.{greatest_number}
use Rattle.scr_replica.specs.declared.heard.Heard.{Heard}

-- the number that the packets before the rows of a message have at most
abbrev pub before_rows : Message → ℕ
before_rows message = number_of message - length (rows_of message)

-- the row of packet p in a message, where it is there
abbrev pub told_row : Message → (p : ℕ) → Option Row
told_row message p =
    if nat_lt (before_rows message) p then slice_get (rows_of message) (p - before_rows message - 1) else None

-- the number up to which messages decide, with one more of the lane. A frame that comes too late decides nothing
abbrev pub decided_with : (history decided taken : ℕ) → Message → ℕ
decided_with history decided taken (Frame n rows) = if nat_lt taken n then n else decided
decided_with history decided taken (Beacon n) = if nat_lt decided (n - history) then n - history else decided
decided_with history decided taken (End n) = n

-- the packet of the last of the first m messages
abbrev pub IsLast : Plan → (core m : ℕ) → Option (List ℕ) → Type 0
IsLast plan core m None = m ≡ 0
IsLast plan core m (Some packet) = (place : ℕ) × (m ≡ place + 1) × SpellsMessage (route plan core) place packet

-- a core took the first m messages of its lane
pub record HasHeard (plan : Plan) (core m : ℕ) (it : Heard) : Type 0 where
  pub decided : it.decided ≡ decided plan core m
  pub taken : it.taken ≡ greatest_number plan core m
  pub whole : it.whole ≡ true → m ≡ length (lane plan core)
  pub not_whole : it.whole ≡ false → m < length (lane plan core)
  pub last : IsLast plan core m it.packet

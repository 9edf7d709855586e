-- What a core is told, message by message. It takes the messages of its lane in turn. A frame whose number isn't above
-- every number that it took before is passed over: it comes too late, or was there before.
use Rattle.std.specs.Prelude.{◌≡◌, ℕ, ◌+◌, ◌<◌, List, [], ◌∷◌, length, map, fold, max, take, slice_get, slice_index_or, Option, Some, nat_lt, if◌then◌else◌}
use Rattle.scr_base.specs.declared.row.Row.{Row}
use Rattle.scr_plan.specs.Plan.{Plan, IsPlan, frame_count}
use Rattle.scr_wire.specs.declared.message.Message.{Message}
use Rattle.scr_wire.specs.declared.message.Message.TheVariants.{Frame, Beacon, End}
use Rattle.scr_wire.specs.Spelling.{number_of}
use Rattle.scr_wire.specs.Lane.{lane, decided}
use Rattle.scr_replica.specs.declared.entry.Entry.{Entry}
use Rattle.scr_replica.specs.declared.entry.Entry.TheVariants.{Lost}
use Rattle.scr_replica.specs.Entries.{entries_up_to, row_in}

-- a core: what it knows of the packets from 1 on, and the greatest number that it took
pub record Told : Type 0 where
  pub known : List Entry
  pub taken : ℕ

-- a core that took nothing
abbrev pub untold : Told
untold = record { known = []; taken = 0 }

-- the greatest number of the first m messages of a lane, and 0 for none
unfoldable pub greatest_number : Plan → (core m : ℕ) → ℕ
greatest_number plan core m = fold max 0 (map number_of (take m (lane plan core)))

-- of some messages, the numbers of the frames that a core takes which took this number before
abbrev pub frames_taken : (taken : ℕ) → List Message → List ℕ
frames_taken taken [] = []
frames_taken taken (Frame n rows ∷ messages) = if nat_lt taken n then n ∷ frames_taken n messages else frames_taken taken messages
frames_taken taken (Beacon n ∷ messages) = frames_taken (max taken n) messages
frames_taken taken (End n ∷ messages) = frames_taken (max taken n) messages

-- a core that took the first m messages of its lane: it knows just the packets that these decide, each by its final entry
pub record IsTold (plan : Plan) (core m : ℕ) (it : Told) : Type 0 where
  pub known : it.known ≡ entries_up_to plan core (decided plan core m)
  pub taken : it.taken ≡ greatest_number plan core m

-- what becomes of a core that takes this message, where it is the next one of its lane
abbrev pub Tells : (history : ℕ) → Message → (old new : Told) → Type 0
Tells history message old new =
    (plan : Plan) (core m : ℕ) → IsPlan plan → plan.history ≡ history → slice_get (lane plan core) m ≡ Some message
    → IsTold plan core m old → IsTold plan core (m + 1) new

-- what each core knows that took its whole lane, the cores in order
pub record AllFinal (plan : Plan) (cores : List Told) : Type 0 where
  pub count : length cores ≡ plan.cores
  pub each : (core : ℕ) → core < plan.cores → (slice_index_or cores core untold).known ≡ entries_up_to plan core (frame_count plan)

-- the row that a core knows of the packet at a place
abbrev pub row_at : List Told → (core place : ℕ) → Option Row
row_at cores core place = row_in (slice_index_or (slice_index_or cores core untold).known place Lost)

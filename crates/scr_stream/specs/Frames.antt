-- The frames of a stream, and the rows that they carry. Packets and frames are numbered from 1.
use Rattle.std.specs.Prelude.{ℕ, ◌+◌, ◌-◌, max, Bool, List, [], ◌∷◌, length, Option, Some, None, ◌==◌, nat_le, if◌then◌else◌}
use Rattle.std.specs.List.{list_any, slice_get}
use Rattle.scr_base.specs.declared.row.Row.{Row}
use Rattle.scr_wire.specs.declared.message.Message.{Message}
use Rattle.scr_wire.specs.declared.message.Message.TheVariants.{Frame}
use Rattle.scr_wire.specs.Spelling.{number_of, rows_of, spelling}

-- a frame: its number, and the rows that it carries, its own last
pub record StreamFrame : Type 0 where
  pub number : ℕ
  pub rows : List Row

-- the frame in a message
abbrev pub frame_of : Message → StreamFrame
frame_of message = record { number = number_of message; rows = rows_of message }

-- the bytes of its message
abbrev pub frame_bytes : StreamFrame → List ℕ
frame_bytes it = spelling (Frame it.number it.rows)

-- the row that it carries of packet p
unfoldable pub carried_row : StreamFrame → (p : ℕ) → Option Row
carried_row it p =
    if nat_le (p + length it.rows) it.number then None else slice_get it.rows (p + length it.rows - (it.number + 1))

abbrev pub first_of : Option Row → Option Row → Option Row
first_of (Some row) other = Some row
first_of None other = other

-- the row of packet p in the first of the frames that carry it
unfoldable pub row_in : List StreamFrame → (p : ℕ) → Option Row
row_in [] p = None
row_in (it ∷ frames) p = first_of (carried_row it p) (row_in frames p)

-- whether one of the frames has number n
abbrev pub has_frame : List StreamFrame → (n : ℕ) → Bool
has_frame frames n = list_any (λ it. it.number == n) frames

-- the greatest of their numbers, and 0 for none
unfoldable pub last_number : List StreamFrame → ℕ
last_number [] = 0
last_number (it ∷ frames) = max it.number (last_number frames)

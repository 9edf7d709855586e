-- The tests of a stream, in their order: those of its header, and those of the entry that stands behind some frames.
use Rattle.std.specs.Prelude.{ℕ, ◌+◌, ◌*◌, min, Bool, false, ◌&&◌, ◌||◌, not, List, length, take, drop, slice_index, Option, Some, None, Result, Ok, Err, ◌==◌, nat_lt, nat_le, if◌then◌else◌}
use Rattle.std.specs.List.{list_any, range_with_len}
use Rattle.scr_base.specs.declared.row.Row.{Row}
use Rattle.scr_plan.specs.Limits.{most_packets, most_cores, longest_history}
use Rattle.scr_wire.specs.declared.error.WireError.{WireError}
use Rattle.scr_wire.specs.declared.error.WireError.TheVariants as wire
use Rattle.scr_wire.specs.declared.message.MessageKind.{MessageKind}
use Rattle.scr_wire.specs.declared.message.MessageKind.TheVariants.{Frame, Beacon, End}
use Rattle.scr_wire.specs.Kinds.{kind_with}
use Rattle.scr_wire.specs.Reading.{number_in, count_in, rows_in}
use Rattle.scr_wire.specs.Refusals.{refusal}
use Rattle.scr_stream.specs.Frames.{StreamFrame, carried_row, row_in, last_number}
use Rattle.scr_stream.specs.declared.error.StreamError.{StreamError}
use Rattle.scr_stream.specs.declared.error.StreamError.TheVariants as fault
use Rattle.scr_stream.specs.declared.header.Shape.{Shape}

-- ---- the header

-- the first four bytes are the mark
abbrev pub has_mark : List ℕ → Bool
has_mark bytes =
    (slice_index bytes 0 == 0x53) && ((slice_index bytes 1 == 0x43) && ((slice_index bytes 2 == 0x52) && (slice_index bytes 3 == 0x53)))

-- the cores and the history are within their bounds
abbrev pub has_shape : List ℕ → Bool
has_shape bytes =
    nat_le 1 (slice_index bytes 6) && (nat_le (slice_index bytes 6) most_cores && nat_le (slice_index bytes 7) longest_history)

-- the cores and the history in front of a stream of this program, or the first test that fails
unfoldable pub shape_of : (program : ℕ) → List ℕ → Result Shape StreamError
shape_of program bytes =
    if nat_lt (length bytes) 8 then Err fault.ShortHeader else
    (if not (has_mark bytes) then Err fault.Mark else
    (if not (slice_index bytes 4 == 1) then Err fault.Version else
    (if not (slice_index bytes 5 == program) then Err fault.Program else
    (if not (has_shape bytes) then Err fault.Shape else
    Ok (record { cores = slice_index bytes 6; history = slice_index bytes 7 })))))

-- ---- an entry: the message in front of what is left

abbrev pub kind_in : List ℕ → MessageKind
kind_in bytes = kind_with (slice_index bytes 3)

-- how many bytes it has, by its header
abbrev pub length_in : List ℕ → ℕ
length_in bytes = 10 + 56 * count_in bytes

-- the frame in it
abbrev pub frame_in : List ℕ → StreamFrame
frame_in bytes = record { number = number_in bytes; rows = rows_in (count_in bytes) (drop 10 bytes) }

-- why the first ten bytes are no header of a message; that the rows are missing there is no reason
abbrev pub header_refusal : Option WireError → Option WireError
header_refusal None = None
header_refusal (Some wire.Short) = Some wire.Short
header_refusal (Some wire.Mark) = Some wire.Mark
header_refusal (Some wire.Version) = Some wire.Version
header_refusal (Some wire.Kind) = Some wire.Kind
header_refusal (Some wire.Count) = Some wire.Count
header_refusal (Some wire.Length) = None

-- a number that no entry of this kind has behind the frame with the last number
abbrev pub is_misplaced : MessageKind → (last number : ℕ) → Bool
is_misplaced Frame last number = nat_lt most_packets number || nat_le number last
is_misplaced Beacon last number = false
is_misplaced End last number = nat_lt most_packets number || nat_lt number last

-- how many rows frame n carries
abbrev pub rows_due : (history n : ℕ) → ℕ
rows_due history n = min n (history + 1)

-- the kind and the number of an entry, and its count of rows, in their order
abbrev pub field_fault : (history entry last : ℕ) → MessageKind → (number count : ℕ) → Option StreamError
field_fault history entry last Frame number count =
    if is_misplaced Frame last number then Some (fault.Number entry) else
    (if not (count == rows_due history number) then Some (fault.Rows entry) else None)
field_fault history entry last Beacon number count = Some (fault.Beacon entry)
field_fault history entry last End number count = if is_misplaced End last number then Some (fault.Number entry) else None

-- the tests of its header
abbrev pub message_fault : (entry : ℕ) → Option WireError → (fields : Option StreamError) → Option StreamError
message_fault entry (Some cause) fields = Some (fault.Message entry cause)
message_fault entry None fields = fields

unfoldable pub header_fault : (history entry last : ℕ) → List ℕ → Option StreamError
header_fault history entry last bytes =
    if nat_lt (length bytes) 10 then Some (fault.Cut entry) else
    message_fault entry (header_refusal (refusal (take 10 bytes)))
    (field_fault history entry last (kind_in bytes) (number_in bytes) (count_in bytes))

-- whether two rows are the same
unfoldable pub same_row : Row → Row → Bool
same_row one other =
    (one.w0 == other.w0) && ((one.w1 == other.w1) && ((one.w2 == other.w2) && ((one.w3 == other.w3) &&
    ((one.w4 == other.w4) && ((one.w5 == other.w5) && (one.w6 == other.w6))))))

abbrev pub clash : Option Row → Option Row → Bool
clash (Some one) (Some other) = not (same_row one other)
clash (Some one) None = false
clash None other = false

-- whether a row of a frame differs from that of an earlier frame
unfoldable pub differs : List StreamFrame → StreamFrame → Bool
differs frames it = list_any (λ p. clash (row_in frames p) (carried_row it p)) (range_with_len 1 it.number)

-- the tests of what stands behind the header: the rows of a frame, and nothing behind an end
abbrev pub behind_fault : List StreamFrame → (entry : ℕ) → MessageKind → List ℕ → Option StreamError
behind_fault frames entry Frame bytes =
    if nat_lt (length bytes) (length_in bytes) then Some (fault.Cut entry) else
    (if differs frames (frame_in bytes) then Some (fault.Differs entry) else None)
behind_fault frames entry Beacon bytes = None
behind_fault frames entry End bytes = if nat_lt 10 (length bytes) then Some fault.Trailing else None

abbrev pub either_fault : Option StreamError → Option StreamError → Option StreamError
either_fault (Some first) second = Some first
either_fault None second = second

-- the first test that fails behind these frames, where one does
unfoldable pub entry_fault : (history : ℕ) → List StreamFrame → List ℕ → Option StreamError
entry_fault history frames bytes =
    either_fault (header_fault history (length frames + 1) (last_number frames) bytes)
    (behind_fault frames (length frames + 1) (kind_in bytes) bytes)

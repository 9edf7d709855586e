-- Why bytes are no message: the first test that fails, in this order.
use Rattle.std.specs.Prelude.{ℕ, ◌+◌, ◌*◌, Bool, ◌&&◌, not, List, length, slice_index, Option, Some, None, ◌==◌, nat_lt, if◌then◌else◌}
use Rattle.scr_wire.specs.declared.error.WireError.{WireError}
use Rattle.scr_wire.specs.declared.error.WireError.TheVariants.{Short, Mark, Version, Kind, Count, Length}
use Rattle.scr_wire.specs.Kinds.{is_code, kind_with, allows}
use Rattle.scr_wire.specs.Reading.{number_in, count_in}

-- the mark in front
abbrev pub has_mark : List ℕ → Bool
has_mark bytes = (slice_index bytes 0 == 0x53) && (slice_index bytes 1 == 0x43)

-- the kind or the number allows the count of rows
abbrev pub has_count : List ℕ → Bool
has_count bytes = allows (kind_with (slice_index bytes 3)) (number_in bytes) (count_in bytes)

-- the rows are all that stands behind the header
abbrev pub has_length : List ℕ → Bool
has_length bytes = length bytes == 10 + 56 * count_in bytes

-- the first test that fails, where one does
unfoldable pub refusal : List ℕ → Option WireError
refusal bytes =
    if nat_lt (length bytes) 10 then Some Short else
    (if not (has_mark bytes) then Some Mark else
    (if not (slice_index bytes 2 == 2) then Some Version else
    (if not (is_code (slice_index bytes 3)) then Some Kind else
    (if not (has_count bytes) then Some Count else
    (if not (has_length bytes) then Some Length else None)))))

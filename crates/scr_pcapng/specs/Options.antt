-- The options of a block (pcapng): each has a code and a length of two bytes each, and a value of this length, which is
-- padded to a multiple of 4 bytes. An option with code 0, or one that passes the end, stops the list.
use Rattle.std.specs.Prelude.{ℕ, zero, suc, ◌+◌, ◌*◌, ◌/◌, Bool, ◌&&◌, ◌||◌, List, [], ◌∷◌, length, take, drop, slice_index, find, Option, ◌==◌, nat_lt, if◌then◌else◌}
use Rattle.std.specs.Option.{option_map}
use Rattle.scr_pcap.specs.declared.format.Order.{Order}
use Rattle.scr_pcap.specs.Header.{number_at}

-- an option
pub record BlockOption : Type 0 where
  pub code : ℕ
  pub value : List ℕ

-- a length, with its padding
abbrev pub padded : ℕ → ℕ
padded size = (size + 3) / 4 * 4

abbrev pub code_in : Order → List ℕ → ℕ
code_in order bytes = number_at order 0 2 bytes

abbrev pub length_in : Order → List ℕ → ℕ
length_in order bytes = number_at order 2 2 bytes

-- the option in front
abbrev pub option_in : Order → List ℕ → BlockOption
option_in order bytes = record { code = code_in order bytes; value = take (length_in order bytes) (drop 4 bytes) }

-- where it ends
abbrev pub option_end : Order → List ℕ → ℕ
option_end order bytes = 4 + padded (length_in order bytes)

-- whether the list stops here
abbrev pub stops : Order → List ℕ → Bool
stops order bytes = nat_lt (length bytes) 4 || ((code_in order bytes == 0) || nat_lt (length bytes) (option_end order bytes))

-- the options in front, of which there are at most so many
abbrev pub options_up_to : (most : ℕ) → Order → List ℕ → List BlockOption
options_up_to zero order bytes = []
options_up_to (suc most) order bytes =
    if stops order bytes then [] else option_in order bytes ∷ options_up_to most order (drop (option_end order bytes) bytes)

-- the options in these bytes
abbrev pub options_in : Order → List ℕ → List BlockOption
options_in order bytes = options_up_to (length bytes) order bytes

-- code 9 with one byte tells the unit of times
abbrev pub tells_unit : BlockOption → Bool
tells_unit o = (o.code == 9) && (length o.value == 1)

-- the value of the first option that tells the unit of times
unfoldable pub unit_in : Order → List ℕ → Option ℕ
unit_in order bytes = option_map (λ (o : BlockOption). slice_index o.value 0) (find tells_unit (options_in order bytes))

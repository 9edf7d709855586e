-- What stands in bytes: a row, rows one after the other, the fields of a header, and a message made of them.
use Rattle.std.specs.Prelude.{ℕ, zero, suc, List, [], ◌∷◌, drop, slice_index}
use Rattle.byteorder.specs.Endian.{big_number}
use Rattle.scr_base.specs.declared.row.Row.{Row}
use Rattle.scr_wire.specs.declared.message.Message.{Message}
use Rattle.scr_wire.specs.declared.message.Message.TheVariants.{Frame, Beacon, End}
use Rattle.scr_wire.specs.declared.message.MessageKind.{MessageKind}
use Rattle.scr_wire.specs.declared.message.MessageKind.TheVariants as kind
use Rattle.scr_wire.specs.Kinds.{kind_with}

-- the word in the eight bytes from a place on
unfoldable pub word_at : (place : ℕ) → List ℕ → ℕ
word_at place bytes = big_number 8 (drop place bytes)

-- the row in the first 56 bytes
unfoldable pub row_in : List ℕ → Row
row_in bytes = record {
  w0 = word_at 0 bytes;
  w1 = word_at 8 bytes;
  w2 = word_at 16 bytes;
  w3 = word_at 24 bytes;
  w4 = word_at 32 bytes;
  w5 = word_at 40 bytes;
  w6 = word_at 48 bytes;
}

-- so many rows, one after the other
unfoldable pub rows_in : ℕ → List ℕ → List Row
rows_in zero bytes = []
rows_in (suc count) bytes = row_in bytes ∷ rows_in count (drop 56 bytes)

-- the number in a header
unfoldable pub number_in : List ℕ → ℕ
number_in bytes = big_number 4 (drop 4 bytes)

-- the count of rows in a header
unfoldable pub count_in : List ℕ → ℕ
count_in bytes = big_number 2 (drop 8 bytes)

-- the message of these parts, where a beacon and an end have no rows
abbrev pub message_of : MessageKind → ℕ → List Row → Message
message_of kind.Frame number rows = Frame number rows
message_of kind.Beacon number rows = Beacon number
message_of kind.End number rows = End number

-- the message in bytes that pass all tests
abbrev pub message_in : List ℕ → Message
message_in bytes =
    message_of (kind_with (slice_index bytes 3)) (number_in bytes) (rows_in (count_in bytes) (drop 10 bytes))

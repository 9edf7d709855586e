-- The one spelling of a message: the mark 53 43, the version 02 and the kind (01 frame, 02 beacon, 03 end), the number
-- in 4 bytes, the count of rows in 2, and the rows, the oldest first, each in seven words of 8 bytes. Every number has
-- its highest byte first. Nothing follows.
use Rattle.std.specs.Prelude.{◌≡◌, ℕ, ◌<◌, ◌^◌, List, [], ◌∷◌, ◌++◌, length, All, IsTrue}
use Rattle.std.specs.List.{flat_map, AllByRecursion}
use Rattle.byteorder.specs.Endian.{big_bytes}
use Rattle.scr_base.specs.RowWords.{row_words}
use Rattle.scr_base.specs.declared.row.Row.{Row}
use Rattle.scr_wire.specs.declared.message.Message.{Message}
use Rattle.scr_wire.specs.declared.message.Message.TheVariants.{Frame, Beacon, End}
use Rattle.scr_wire.specs.declared.message.MessageKind.{MessageKind}
use Rattle.scr_wire.specs.declared.message.MessageKind.TheVariants as kind
use Rattle.scr_wire.specs.Kinds.{code_of, allows}

abbrev pub kind_of : Message → MessageKind
kind_of (Frame number rows) = kind.Frame
kind_of (Beacon number) = kind.Beacon
kind_of (End number) = kind.End

abbrev pub number_of : Message → ℕ
number_of (Frame number rows) = number
number_of (Beacon number) = number
number_of (End number) = number

abbrev pub rows_of : Message → List Row
rows_of (Frame number rows) = rows
rows_of (Beacon number) = []
rows_of (End number) = []

unfoldable pub row_bytes : Row → List ℕ
row_bytes row = flat_map (big_bytes 8) (row_words row)

abbrev pub rows_bytes : List Row → List ℕ
rows_bytes rows = flat_map row_bytes rows

unfoldable pub header_bytes : MessageKind → (number count : ℕ) → List ℕ
header_bytes kind number count = 0x53 ∷ 0x43 ∷ 2 ∷ code_of kind ∷ big_bytes 4 number ++ big_bytes 2 count

abbrev pub spelling : Message → List ℕ
spelling message = header_bytes (kind_of message) (number_of message) (length (rows_of message)) ++ rows_bytes (rows_of message)

-- words of 64 bits
unfoldable pub IsRow : Row → Type 0
IsRow row = AllByRecursion (λ word. word < 2 ^ 64) (row_words row)

-- which messages have a spelling
pub record HasSpelling (message : Message) : Type 0 where
  pub number : number_of message < 2 ^ 32
  pub count : IsTrue (allows (kind_of message) (number_of message) (length (rows_of message)))
  pub rows : All IsRow (rows_of message)

-- the message spells these bytes
pub record Spells (message : Message) (bytes : List ℕ) : Type 0 where
  pub has_spelling : HasSpelling message
  pub spelled : bytes ≡ spelling message

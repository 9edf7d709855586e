-- The blocks of a capture (pcapng): a type of 4 bytes, the total length in 4 bytes, a body, and the total length again.
-- A section's body begins with a mark, which tells the order of bytes in this section.
use Rattle.std.specs.Prelude.{◌≡◌, ℕ, ◌-◌, ◌%◌, Bool, ◌&&◌, not, List, length, take, Option, Some, None, Result, Ok, Err, ◌==◌, nat_lt, nat_le, if◌then◌else◌}
use Rattle.scr_pcap.specs.declared.format.Order.{Order}
use Rattle.scr_pcap.specs.declared.format.Order.TheVariants.{Little, Big}
use Rattle.scr_pcap.specs.Header.{number_at}
use Rattle.scr_pcapng.specs.declared.content.Content.{Content}
use Rattle.scr_pcapng.specs.declared.error.NgError.{NgError}
use Rattle.scr_pcapng.specs.declared.error.NgError.TheVariants.{Cut, Mark, Length, TooManyBlocks}
use Rattle.scr_pcapng.specs.declared.kind.Kind.{Kind}
use Rattle.scr_pcapng.specs.declared.kind.Kind.TheVariants.{SectionHeader, InterfaceDescription, SimplePacket, EnhancedPacket, Other}
use Rattle.scr_pcapng.specs.Contents.{Position, content_in, number_of}

-- a block: its bytes, and what they tell
pub record Block : Type 0 where
  pub bytes : List ℕ
  pub content : Content

-- the most blocks that are taken
abbrev pub BLOCKS : ℕ
BLOCKS = 4000000

abbrev pub kind_of : (type : ℕ) → Kind
kind_of type =
    if type == 0x0A0D0D0A then SectionHeader else
    (if type == 1 then InterfaceDescription else
    (if type == 3 then SimplePacket else
    (if type == 6 then EnhancedPacket else Other)))

-- the least total length
abbrev pub least : Kind → ℕ
least SectionHeader = 28
least InterfaceDescription = 20
least SimplePacket = 16
least EnhancedPacket = 32
least Other = 12

-- how many bytes tell the total length
abbrev pub front_of : Kind → ℕ
front_of SectionHeader = 12
front_of InterfaceDescription = 8
front_of SimplePacket = 8
front_of EnhancedPacket = 8
front_of Other = 8

-- how many bytes tell what the block is, but for options and the bytes of a packet
abbrev pub head_of : Kind → ℕ
head_of SectionHeader = 16
head_of InterfaceDescription = 16
head_of SimplePacket = 12
head_of EnhancedPacket = 28
head_of Other = 8

-- the type of a section is the same in both orders
abbrev pub kind_in : Position → List ℕ → Kind
kind_in position bytes = kind_of (number_at position.order 0 4 bytes)

-- the order in which a section's mark has its value
abbrev pub marked_order : List ℕ → Option Order
marked_order bytes =
    if number_at Little 8 4 bytes == 0x1A2B3C4D then Some Little else
    (if number_at Big 8 4 bytes == 0x1A2B3C4D then Some Big else None)

abbrev pub order_in : Position → Kind → List ℕ → Option Order
order_in position SectionHeader bytes = marked_order bytes
order_in position InterfaceDescription bytes = Some position.order
order_in position SimplePacket bytes = Some position.order
order_in position EnhancedPacket bytes = Some position.order
order_in position Other bytes = Some position.order

abbrev pub total_in : Order → List ℕ → ℕ
total_in order bytes = number_at order 4 4 bytes

abbrev pub is_total : Kind → ℕ → Bool
is_total kind total = (total % 4 == 0) && nat_le (least kind) total

-- the bytes of a block, with what they tell
abbrev pub told_by : List ℕ → Result Content NgError → Result Block NgError
told_by bytes (Ok content) = Ok (record { bytes = bytes; content = content })
told_by bytes (Err fault) = Err fault

-- a block that is all there: its two lengths are equal, and then its content is tested
unfoldable pub closed : Position → Kind → Order → List ℕ → Result Block NgError
closed position kind order block =
    if not (number_at order (length block - 4) 4 block == length block) then Err (Length (number_of position)) else
    told_by block (content_in position kind order block)

-- as many bytes as the total length says
unfoldable pub framed : Position → Kind → Order → ℕ → List ℕ → Result Block NgError
framed position kind order total bytes =
    if nat_lt (length bytes) total then Err (Cut (number_of position)) else closed position kind order (take total bytes)

-- the total length is tested
unfoldable pub sized : Position → Kind → Order → ℕ → List ℕ → Result Block NgError
sized position kind order total bytes =
    if not (is_total kind total) then Err (Length (number_of position)) else framed position kind order total bytes

abbrev pub ordered : Position → Kind → Option Order → List ℕ → Result Block NgError
ordered position kind None bytes = Err (Mark (number_of position))
ordered position kind (Some order) bytes = sized position kind order (total_in order bytes) bytes

-- the block in front of these bytes, or the first test that it fails
unfoldable pub block_in : Position → List ℕ → Result Block NgError
block_in position bytes =
    if position.blocks == BLOCKS then Err (TooManyBlocks BLOCKS) else
    (if nat_lt (length bytes) (front_of (kind_in position bytes)) then Err (Cut (number_of position)) else
    ordered position (kind_in position bytes) (order_in position (kind_in position bytes) bytes) bytes)

-- these bytes are this block, and no more
abbrev pub IsBlock : Position → Block → Type 0
IsBlock position block = block_in position block.bytes ≡ Ok block
